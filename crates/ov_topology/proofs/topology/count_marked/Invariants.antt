use Rattle.std.proofs.Common.{◌≡◌, ◌+◌, ◌≤◌, drop}
use Rattle.ov_topology.specs.Shape.{marked}
use Rattle.ov_topology.proofs.topology.count_marked.Given as goal

abbrev pub invariant-loop-mark : goal.invariant-loop-mark
invariant-loop-mark l = record { votes : l.votes + marked (drop l.mark-index l.marks) ≡ marked l.marks; few : l.votes ≤ l.mark-index }
