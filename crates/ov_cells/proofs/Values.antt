-- The tasks of a plan, and the values of their places.
use Rattle.std.proofs.Common.{◌≡◌, ℕ, zero, suc, ◌+◌, ◌<◌, List, [], ◌∷◌, ◌++◌, map, length, get_or, sym, refl, ap, ◌∙◌, arith}
use Rattle.std.proofs.lemmas.Option.{get_or_from_slice_get, slice_get_read}
use Rattle.ov_base.specs.declared.value.Value.{Value}
use Rattle.ov_base.specs.declared.value.Value.TheVariants.{Absent}
use Rattle.ov_functor.specs.Functor.{apply}
use Rattle.ov_window.proofs.Evaluating.{place_value}
use Rattle.ov_window.specs.Evaluation.{input_value, task_value, values_behind, values_of}
use Rattle.ov_window.specs.Plan.{AreBefore, IsBefore, IsFed, IsPlan}
use Rattle.ov_window.specs.declared.plan.Input.{Input}
use Rattle.ov_window.specs.declared.plan.Task.{Task}
use Rattle.ov_cells.specs.Seats.{value_at}

-- there are as many values as tasks
pub values_long : (values : List Value) (tasks : List Task) → length (values_behind values tasks) ≡ length values + length tasks
values_long values [] = omega arith
values_long values (task ∷ tasks) = let rest = values_long (values ++ task_value values task ∷ []) tasks in let one = long values (task_value values task) in omega arith
  where
    long : (values : List Value) (value : Value) → length (values ++ value ∷ []) ≡ length values + 1
    long [] value = refl
    long (one ∷ values) value = let rest = long values value in omega arith

-- each input of a task is before its place
pub input_before : (place : ℕ) (inputs : List Input) (at : ℕ) (input : Input) → AreBefore place inputs → at < length inputs → input ≡ get_or inputs at input → IsBefore place input
input_before place [] at input before less is = absurd (omega arith)
input_before place (one ∷ inputs) zero input before less is = rw is before.0
input_before place (one ∷ inputs) (suc at) input before less is = input_before place inputs at input before.1 (omega arith) is

-- the task at a place is fed
pub task_fed : (tasks : List Task) (place : ℕ) (task : Task) → IsPlan tasks → place < length tasks → task ≡ get_or tasks place task → IsFed place task
task_fed tasks place task plan less is = plan place task (slice_get_read tasks (length tasks) place task refl less is)

-- the functor of the task at a place gives the place's value on those of its inputs
pub task_gives : (tasks : List Task) (place : ℕ) (task : Task) (inputs : List Value) → IsPlan tasks → place < length tasks → task ≡ get_or tasks place task
    → inputs ≡ map (input_value (values_of tasks)) task.inputs → apply task.functor inputs ≡ value_at tasks place
task_gives tasks place task inputs plan less is gathered =
    ap (apply task.functor) gathered
    ∙ sym (get_or_from_slice_get (values_of tasks) place (task_value (values_of tasks) task) Absent (place_value tasks place task plan (slice_get_read tasks (length tasks) place task refl less is)))
