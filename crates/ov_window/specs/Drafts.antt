-- Plans as they are made, with the places of their keys and versions.
use Rattle.std.specs.Prelude.{◌≡◌, ℕ, Option, Some, None, List}
use Rattle.std.specs.List.{AllByRecursion}
use Rattle.ov_base.specs.declared.value.Value.{Value}
use Rattle.ov_functor.specs.Execution.{Map}
use Rattle.ov_functor.specs.Unions.{backwards}
use Rattle.ov_functor.specs.Windows.{HasItem}
use Rattle.ov_functor.specs.declared.item.Item.{Item}
use Rattle.ov_lists.specs.Entries.{Entry, latest_of}
use Rattle.ov_window.specs.Plan.{input_for, tasks_of}
use Rattle.ov_window.specs.declared.plan.Input.{Input}
use Rattle.ov_window.specs.declared.plan.Input.TheVariants.{Base, Earlier}
use Rattle.ov_window.specs.declared.plan.Task.{Task}

-- the input that was found: an earlier place, else this value
abbrev pub input_by : Value → Option (Entry ℕ) → Input
input_by value None = Base value
input_by value (Some entry) = Earlier entry.item

-- the input of a key below a version, by the places of keys and versions
abbrev pub input_at : Map → List (Entry ℕ) → ℕ → List ℕ → Input
input_at base places version key = input_by (base key) (latest_of key version places)

-- The tasks are those of the items, which stand newest first, and the places give the input of each key below each version.
pub record IsDraft (base : Map) (items : List Item) (tasks : List Task) (places : List (Entry ℕ)) : Type 0 where
  pub tasks_are : tasks ≡ backwards (tasks_of base items)
  pub known : AllByRecursion (λ entry. HasItem items entry.version entry.key) places
  pub inputs : (version : ℕ) (key : List ℕ) → input_for base version (tasks_of base items) key ≡ input_at base places version key
