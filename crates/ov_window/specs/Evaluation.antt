-- The values of a plan, one for each place.
use Rattle.std.specs.Prelude.{List, [], ◌∷◌, ◌++◌, get_or, map}
use Rattle.ov_base.specs.declared.value.Value.{Value}
use Rattle.ov_base.specs.declared.value.Value.TheVariants.{Absent}
use Rattle.ov_functor.specs.Functor.{apply}
use Rattle.ov_functor.specs.declared.item.Valued.{Valued}
use Rattle.ov_window.specs.declared.plan.Input.{Input}
use Rattle.ov_window.specs.declared.plan.Input.TheVariants.{Base, Earlier}
use Rattle.ov_window.specs.declared.plan.Task.{Task}

-- the value of an input: of the base, or of an earlier place
abbrev pub input_value : List Value → Input → Value
input_value values (Base value) = value
input_value values (Earlier place) = get_or values place Absent

-- the value of a task on the values of the places before it: that of its functor
abbrev pub task_value : List Value → Task → Value
task_value values task = apply task.functor (map (input_value values) task.inputs)

-- the values of older places, and behind them those of these tasks, each on all before it
abbrev pub values_behind : List Value → List Task → List Value
values_behind values [] = values
values_behind values (task ∷ later) = values_behind (values ++ task_value values task ∷ []) later

-- the value of each place of a plan
abbrev pub values_of : List Task → List Value
values_of tasks = values_behind [] tasks

-- settled values without their versions and keys
abbrev pub only : List Valued → List Value
only [] = []
only (one ∷ others) = one.value ∷ only others
