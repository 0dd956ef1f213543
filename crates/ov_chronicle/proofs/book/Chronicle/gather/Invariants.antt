use Rattle.std.proofs.Common.{◌≡◌, ◌+◌, ◌++◌, true, map, length}
use Rattle.ov_chronicle.specs.Rules.{IsIdle, past_of}
use Rattle.ov_chronicle.specs.Seats.{AreOf, kept_of}
use Rattle.ov_chronicle.proofs.book.Chronicle.gather.Given as goal

abbrev pub invariant-loop-other : goal.invariant-loop-other
invariant-loop-other g l =
    (l.first.table_id ≡ l.self.table) × (l.first.me.0.limit ≡ l.self.limit) × (l.first.me.0.made ≡ l.self.actors) × IsIdle l.first.me × (l.first.me.0.first ≡ true) × (l.first.me.0.alive ≡ length l.others.items + 1)
    × (past_of l.first.me.0 ≡ kept_of l.fn.first) × (map kept_of l.others.items ++ l.first.me.0.joined ≡ map kept_of l.fn.others.items) × AreOf l.self l.others.items

abbrev pub decreases-loop-other : goal.decreases-loop-other
decreases-loop-other g l = goal.left-loop-other g l
