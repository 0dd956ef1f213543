use Rattle.std.proofs.Common.{◌≡◌, ℕ, ◌+◌, ◌||◌, vec_len}
use Rattle.std.specs.List.{AllByRecursion}
use Rattle.ov_cells.specs.Rules.{all_parts, has}
use Rattle.ov_cells.specs.Seats.{IsSeatOf, known_by, parts_of}
use Rattle.ov_cells.proofs.cells.Cells.joined.Given as goal

-- the seat has taken in all but the others
abbrev pub invariant-loop-other : goal.invariant-loop-other
invariant-loop-other l =
    IsSeatOf l.self l.seat
    × AllByRecursion (IsSeatOf l.self) l.others.items
    × (parts_of l.others.items + l.seat.parts ≡ all_parts)
    × ((place : ℕ) → (known_by l.others.items place || has l.seat.known place) ≡ known_by l.fn.seats.items place)

abbrev pub decreases-loop-other : goal.decreases-loop-other
decreases-loop-other l = vec_len l.others
