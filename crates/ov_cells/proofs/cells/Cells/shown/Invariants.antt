use Rattle.std.proofs.Common.{◌≡◌, ◌≤◌, take, vec_capacity}
use Rattle.ov_window.specs.Evaluation.{values_of}
use Rattle.ov_cells.specs.Rules.{has}
use Rattle.ov_cells.specs.Seats.{shown_from}
use Rattle.ov_cells.proofs.cells.Cells.shown.Given as goal

abbrev pub invariant-loop-place : goal.invariant-loop-place
invariant-loop-place l =
    (l.values.items ≡ take l.place (shown_from (has l.fn.seat.known) 0 (values_of l.fn.self.tasks)))
    × (vec_capacity l.fn.values ≤ vec_capacity l.values)
