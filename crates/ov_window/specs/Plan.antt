-- Plans: items with the places of their inputs.
use Rattle.std.specs.Prelude.{◌≡◌, ℕ, nat_lt, ◌<◌, ◌&&◌, Option, Some, None, if◌then◌else◌, List, [], ◌∷◌, length, map, slice_get}
use Rattle.ov_base.specs.Key.{key_eq}
use Rattle.ov_base.specs.declared.value.Value.{Value}
use Rattle.ov_base.specs.declared.value.Value.TheVariants.{Absent}
use Rattle.ov_functor.specs.Execution.{Map}
use Rattle.ov_functor.specs.Functor.{reads}
use Rattle.ov_functor.specs.Unions.{union, backwards}
use Rattle.ov_functor.specs.declared.item.Item.{Item}
use Rattle.ov_lists.specs.Entries.{Entry, latest_of}
use Rattle.ov_window.specs.Harvest.{Gathered}
use Rattle.ov_window.specs.declared.plan.Input.{Input}
use Rattle.ov_window.specs.declared.plan.Input.TheVariants.{Base, Earlier}
use Rattle.ov_window.specs.declared.plan.Task.{Task}

-- ---- the values of older versions

abbrev pub item_or : Value → Option (Entry Value) → Value
item_or other None = other
item_or other (Some entry) = entry.item

-- the map just below a number: the value of each key at its greatest version below it, else absent
abbrev pub map_below : ℕ → List (Entry Value) → Map
map_below number entries key = item_or Absent (latest_of key number entries)

-- ---- plans, the newest task first: the place of a task is how many are older

-- the input of a key below a version: the place of the newest task of the key and of a lower version, else the value of the base
abbrev pub input_for : Map → ℕ → List Task → List ℕ → Input
input_for base version [] key = Base (base key)
input_for base version (task ∷ older) key = if key_eq task.key key && nat_lt task.version version then Earlier (length older) else input_for base version older key

-- the task of an item over older tasks: its inputs are those of the keys that its functor reads
abbrev pub task_of : Map → List Task → Item → Task
task_of base older item = record { version = item.version; key = item.key; functor = item.functor; inputs = map (input_for base item.version older) (reads item.functor) }

-- the tasks of items over a base, the newest first
abbrev pub tasks_of : Map → List Item → List Task
tasks_of base [] = []
tasks_of base (item ∷ older) = task_of base (tasks_of base older) item ∷ tasks_of base older

-- ---- plans in their order, the oldest task first

-- the plan of items by version and then key
abbrev pub plan_of : Map → List Item → List Task
plan_of base items = backwards (tasks_of base (backwards items))

-- the plan of a harvest over older values: of the union of its items, over the values just below its round
abbrev pub plan_over : List (Entry Value) → Gathered → List Task
plan_over entries harvest = plan_of (map_below harvest.round.from entries) (union harvest.items)

-- an input that is not a place from this one on
abbrev pub IsBefore : ℕ → Input → Type 0
IsBefore place (Base value) = Unit {0}
IsBefore place (Earlier earlier) = earlier < place

-- inputs none of which is a place from this one on
abbrev pub AreBefore : ℕ → List Input → Type 0
AreBefore place [] = Unit {0}
AreBefore place (input ∷ inputs) = IsBefore place input × AreBefore place inputs

-- The task has an input for each key that its functor reads, and each place among them is before its own.
pub record IsFed (place : ℕ) (task : Task) : Type 0 where
  pub count : length task.inputs ≡ length (reads task.functor)
  pub before : AreBefore place task.inputs

-- each task of a plan is fed by those before it
abbrev pub IsPlan : List Task → Type 0
IsPlan tasks = (place : ℕ) (task : Task) → slice_get tasks place ≡ Some task → IsFed place task
