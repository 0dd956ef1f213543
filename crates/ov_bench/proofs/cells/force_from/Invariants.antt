use Rattle.std.proofs.Common.{◌≡◌, ◌-◌, ◌≤◌, length}
use Rattle.ov_cells.specs.Seats.{IsSeatOf}
use Rattle.ov_bench.proofs.cells.force_from.Given as goal

abbrev pub invariant-loop-place : goal.invariant-loop-place
invariant-loop-place l = IsSeatOf l.cells l.seat × (l.seat.parts ≡ l.fn.seat.parts) × (length l.cells.tasks ≤ l.scratch)

abbrev pub decreases-loop-place : goal.decreases-loop-place
decreases-loop-place l = l.count - l.place
