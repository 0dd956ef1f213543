use Rattle.std.proofs.Common.{◌+◌, ◌*◌, ◌-◌, ◌≤◌, vec_capacity, vec_len}
use Rattle.ov_cells.specs.Paths.{IsPath, unknown_below}
use Rattle.ov_cells.specs.Seats.{HasLearnt}
use Rattle.ov_cells.specs.declared.scratch.TheConstants.{MOST_INPUTS}
use Rattle.ov_cells.proofs.cells.Cells.set_from.Given as goal

-- the stack is a path to the place
abbrev pub invariant-loop-next : goal.invariant-loop-next
invariant-loop-next l =
    HasLearnt (l.place + 1) l.fn.seat l.seat
    × IsPath l.seat.known l.place l.waiting.items
    × (vec_capacity l.fn.waiting ≤ vec_capacity l.waiting)
    × (MOST_INPUTS ≤ vec_capacity l.inputs)

-- each turn sets one more place and takes it from the stack, or puts one more onto it
abbrev pub decreases-loop-next : goal.decreases-loop-next
decreases-loop-next l = 2 * unknown_below l.seat.known (l.place + 1) + (l.place + 1) - vec_len l.waiting
