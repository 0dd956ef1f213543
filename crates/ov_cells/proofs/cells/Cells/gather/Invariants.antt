use Rattle.std.proofs.Common.{◌≡◌, ◌≤◌, map, take, vec_capacity}
use Rattle.ov_window.specs.Evaluation.{input_value, values_of}
use Rattle.ov_cells.specs.Seats.{HasLearnt}
use Rattle.ov_cells.specs.declared.scratch.TheConstants.{MOST_INPUTS}
use Rattle.ov_cells.proofs.cells.Cells.gather.Given as goal

abbrev pub invariant-loop-input : goal.invariant-loop-input
invariant-loop-input l =
    HasLearnt l.place l.fn.seat l.seat
    × (l.gathered.items ≡ map (input_value (values_of l.self.tasks)) (take l.input-index l.input-items))
    × (MOST_INPUTS ≤ vec_capacity l.gathered)
