use Rattle.std.proofs.Common.{◌≡◌, drop}
use Rattle.std.specs.Prelude.{max}
use Rattle.ov_gossip.specs.Marks.{greatest, low_time}
use Rattle.ov_gossip.proofs.vector.greatest_time.Given as goal

abbrev pub invariant-loop-mark : goal.invariant-loop-mark
invariant-loop-mark l = max l.greatest (greatest low_time (drop l.mark-index l.marks)) ≡ greatest low_time l.marks
