use Rattle.std.proofs.Common.{refl}
use Rattle.ov_event.specs.ItemWords.{item_of}
use Rattle.ov_journal.specs.Read.{marks_of}
use Rattle.ov_journal.proofs.tails.Tail.empty.Goals as goal

pub invariant_of-result : goal.invariant_of-result
unfolding item_of marks_of
invariant_of-result c = rw c.new.ensures.items (refl, refl)
