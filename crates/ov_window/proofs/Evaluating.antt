-- The values of a plan: one more for each task, and that of a place by the values of all.
use Rattle.std.proofs.Common.{◌≡◌, ℕ, zero, suc, ◌+◌, ◌<◌, Some, List, [], ◌∷◌, ◌++◌, length, map, take, get_or, refl, sym, ap, subst, ◌∙◌, arith}
use Rattle.std.specs.Prelude.{slice_get}
use Rattle.std.proofs.lemmas.List.{append-nil, append_assoc, get_or_append_left, length_push, take_more}
use Rattle.ov_base.proofs.Lists.{get_front, get_next}
use Rattle.ov_base.specs.declared.value.Value.{Value}
use Rattle.ov_base.specs.declared.value.Value.TheVariants.{Absent}
use Rattle.ov_functor.specs.Functor.{apply}
use Rattle.ov_window.specs.Evaluation.{input_value, task_value, values_behind, values_of}
use Rattle.ov_window.specs.Plan.{AreBefore, IsPlan}
use Rattle.ov_window.specs.declared.plan.Input.{Input}
use Rattle.ov_window.specs.declared.plan.Input.TheVariants.{Base, Earlier}
use Rattle.ov_window.specs.declared.plan.Task.{Task}

-- ---- one task more

-- the last of the tasks has its value on the values of all before it
pub values_snoc : (values : List Value) (tasks : List Task) (task : Task) → values_behind values (tasks ++ task ∷ []) ≡ values_behind values tasks ++ task_value (values_behind values tasks) task ∷ []
values_snoc values [] task = refl
values_snoc values (first ∷ rest) task = values_snoc (values ++ task_value values first ∷ []) rest task

-- the values of the tasks up to one more place
pub values_more : (tasks : List Task) (place : ℕ) (task : Task) → place < length tasks → task ≡ get_or tasks place task
    → values_of (take (place + 1) tasks) ≡ values_of (take place tasks) ++ task_value (values_of (take place tasks)) task ∷ []
values_more tasks place task less is =
    ap values_of (take_more tasks place task less)
    ∙ ap (λ one. values_of (take place tasks ++ one ∷ [])) (sym is)
    ∙ values_snoc [] (take place tasks) task

-- ---- the value of a place

-- Values that stay, and others behind them.
record Extends (values all : List Value) : Type 0 where
  others : List Value
  is : all ≡ values ++ others

-- the values of older places stay
stays : (values : List Value) (tasks : List Task) → Extends values (values_behind values tasks)
stays values [] = record { others = []; is = sym (append-nil values) }
stays values (task ∷ later) =
    let rest = stays (values ++ task_value values task ∷ []) later in
    record { others = task_value values task ∷ rest.others; is = rest.is ∙ append_assoc values (task_value values task ∷ []) rest.others }

-- inputs before a place have the same values with others behind
inputs_stay : (values others : List Value) (inputs : List Input) → AreBefore (length values) inputs → map (input_value values) inputs ≡ map (input_value (values ++ others)) inputs
inputs_stay values others [] before = refl
inputs_stay values others (Base value ∷ inputs) before = ap (λ rest. value ∷ rest) (inputs_stay values others inputs before.1)
inputs_stay values others (Earlier place ∷ inputs) before =
    let here : get_or values place Absent ≡ get_or (values ++ others) place Absent = sym (get_or_append_left values others Absent place before.0) in
    let rest = inputs_stay values others inputs before.1 in
    (λ i. here i ∷ rest i)

-- the value of a place behind older ones
place_behind : (values : List Value) (tasks : List Task) (place : ℕ) (task : Task) → slice_get tasks place ≡ Some task → AreBefore (length values + place) task.inputs
    → slice_get (values_behind values tasks) (length values + place) ≡ Some (task_value (values_behind values tasks) task)
place_behind values [] place task there before = absurd (cc)
place_behind values (first ∷ later) zero task there before =
    let is : first ≡ task = cc in
    let none : length values + 0 ≡ length values = omega arith in
    subst (λ (one : Task). slice_get (values_behind values (first ∷ later)) (length values + 0) ≡ Some (task_value (values_behind values (first ∷ later)) one)) is
    (rw none (here (subst (λ (one : Task). AreBefore (length values) one.inputs) (sym is) (subst (λ (at : ℕ). AreBefore at task.inputs) none before))))
  where
    here : AreBefore (length values) first.inputs → slice_get (values_behind values (first ∷ later)) (length values) ≡ Some (task_value (values_behind values (first ∷ later)) first)
    here before =
        let rest = stays values (first ∷ later) in
        let next = stays (values ++ task_value values first ∷ []) later in
        let got : slice_get (values_behind values (first ∷ later)) (length values) ≡ Some (task_value values first) =
        subst (λ (all : List Value). slice_get all (length values) ≡ Some (task_value values first)) (sym next.is)
        (get_front (values ++ task_value values first ∷ []) next.others (length values) (task_value values first) (get_next values (task_value values first))) in
        got ∙ ap (λ inputs. Some (apply first.functor inputs)) (inputs_stay values rest.others first.inputs before ∙ ap (λ all. map (input_value all) first.inputs) (sym rest.is))
place_behind values (first ∷ later) (suc place) task there before =
    let long : length (values ++ task_value values first ∷ []) + place ≡ length values + suc place = omega (arith, length_push values (task_value values first)) in
    subst (λ (at : ℕ). slice_get (values_behind values (first ∷ later)) at ≡ Some (task_value (values_behind values (first ∷ later)) task)) long
    (place_behind (values ++ task_value values first ∷ []) later place task there (subst (λ (at : ℕ). AreBefore at task.inputs) (sym long) before))

-- the value of each place of a plan is that of its task on the values of all places
pub place_value : (tasks : List Task) (place : ℕ) (task : Task) → IsPlan tasks → slice_get tasks place ≡ Some task → slice_get (values_of tasks) place ≡ Some (task_value (values_of tasks) task)
place_value tasks place task plan there =
    let none : length {A = Value} [] + place ≡ place = omega arith in
    subst (λ (at : ℕ). slice_get (values_of tasks) at ≡ Some (task_value (values_of tasks) task)) none
    (place_behind [] tasks place task there (subst (λ (at : ℕ). AreBefore at task.inputs) (sym none) (plan place task there).before))
