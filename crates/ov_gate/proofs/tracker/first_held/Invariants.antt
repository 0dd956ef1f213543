use Rattle.std.proofs.Common.{◌≤◌}
use Rattle.ov_gate.specs.Tracker.{first_held}
use Rattle.ov_gate.proofs.tracker.first_held.Given as goal

abbrev pub invariant-loop-place : goal.invariant-loop-place
invariant-loop-place l = l.place ≤ first_held l.mark l.items
