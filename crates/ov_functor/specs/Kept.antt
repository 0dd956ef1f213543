-- Maps from keys to values, as code keeps them: an absent key has nothing, and each other key has what stands for its value.
use Rattle.std.specs.Prelude.{ℕ, List, Option, Some, None}
use Rattle.std.specs.BTreeMap.{BTreeMap, get}
use Rattle.std.specs.Cmp.Lexicographic.{slice_cmp}
use Rattle.std.specs.Ordering.{nat_cmp}
use Rattle.ov_base.specs.declared.value.Value.{Value}
use Rattle.ov_base.specs.declared.value.Value.TheVariants.{Absent}
use Rattle.ov_functor.specs.Execution.{Map}

-- the value of what is kept, and absent where nothing is
abbrev pub value_by : {T : Type 0} → (T → Value) → Option T → Value
value_by value None = Absent
value_by value (Some kept) = value kept

-- the map that is kept so
abbrev pub map_by : {T : Type 0} → (T → Value) → BTreeMap (List ℕ) T → Map
map_by value kept key = value_by value (get (slice_cmp nat_cmp) kept key)

-- a value stands for itself
abbrev pub own : Value → Value
own value = value
