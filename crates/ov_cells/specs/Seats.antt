-- What contracts see of cells and of their seats.
use Rattle.std.specs.Prelude.{ℕ, ◌≡◌, ◌+◌, ◌≤◌, ◌||◌, Bool, true, false, List, [], ◌∷◌, Option, Some, None, if◌then◌else◌}
use Rattle.atomic_table.specs.Seated.{TableId}
use Rattle.ov_base.specs.declared.value.Value.{Value}
use Rattle.ov_window.specs.Evaluation.{values_of}
use Rattle.ov_window.specs.declared.plan.Task.{Task}
use Rattle.ov_cells.specs.Rules.{has, value_among}

-- What contracts see of cells: the tasks of the plan, and which table they are.
pub record SeenCells : Type 0 where
  pub tasks : List Task
  pub table : TableId

-- What contracts see of a seat: the table that it is of, the values of that table's plan, the places that it knows to be set, and its
-- parts of the right to close.
pub record SeenSeat : Type 0 where
  pub table : TableId
  pub values : List Value
  pub known : List ℕ
  pub parts : ℕ

-- the defined value of a place of a plan
abbrev pub value_at : List Task → ℕ → Value
value_at tasks place = value_among (values_of tasks) place

-- the seat is one of these cells
abbrev pub IsSeatOf : SeenCells → SeenSeat → Type 0
IsSeatOf cells seat = (seat.table ≡ cells.table) × (seat.values ≡ values_of cells.tasks)

-- the seat knows that the place is set
abbrev pub Knows : SeenSeat → ℕ → Type 0
Knows seat place = has seat.known place ≡ true

-- what the one knows the other knows too
abbrev pub KnowsMore : SeenSeat → SeenSeat → Type 0
KnowsMore before after = (place : ℕ) → Knows before place → Knows after place

-- From one state of a seat to a later one: the same seat, which has learnt more places or none, all of them below this one.
pub record HasLearnt (bound : ℕ) (before after : SeenSeat) : Type 0 where
  pub table : after.table ≡ before.table
  pub values : after.values ≡ before.values
  pub parts : after.parts ≡ before.parts
  pub more : KnowsMore before after
  pub below : (place : ℕ) → bound ≤ place → Knows after place → Knows before place

-- ---- closing

-- the parts of all these seats
abbrev pub parts_of : List SeenSeat → ℕ
parts_of [] = 0
parts_of (seat ∷ seats) = seat.parts + parts_of seats

-- whether one of these seats knows the place
abbrev pub known_by : List SeenSeat → ℕ → Bool
known_by [] place = false
known_by (seat ∷ seats) place = has seat.known place || known_by seats place

-- the values from a place on, None at each place that is not known
abbrev pub shown_from : (ℕ → Bool) → ℕ → List Value → List (Option Value)
shown_from known place [] = []
shown_from known place (value ∷ values) = (if known place then Some value else None) ∷ shown_from known (place + 1) values

-- the value of each place of a plan, None exactly where none of these seats knows it
abbrev pub shown_by : List SeenSeat → List Task → List (Option Value)
shown_by seats tasks = shown_from (known_by seats) 0 (values_of tasks)
