use Rattle.std.proofs.Common.{rules, ap}
use Rattle.ov_chronicle.proofs.book.Chronicle.read.Goals as goal

pub leave-requires-clause-own : goal.leave-requires-clause-own
leave-requires-clause-own g c κs within = let t = c.enter-list.ensures.turn in (search rules, (t.2, ap (λ m. m.1) t.3))
