use Rattle.std.proofs.Common.{◌≡◌, drop}
use Rattle.ov_gossip.specs.Marks.{least_from, least, mark_of}
use Rattle.ov_gossip.proofs.vector.least_of.Given as goal

abbrev pub invariant-loop-mark : goal.invariant-loop-mark
invariant-loop-mark l = least_from (mark_of l.which) l.least (drop l.mark-index l.marks) ≡ least (mark_of l.which) l.marks
