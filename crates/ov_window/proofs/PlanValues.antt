-- Plans: what is known of each task, and that evaluating a plan gives the values of its items.
use Rattle.std.proofs.Common.{◌≡◌, ℕ, zero, suc, ◌+◌, ◌<◌, ◌≤◌, Bool, true, false, ◌&&◌, ◌⊎◌, inl, inr, Option, Some, None, List, [], ◌∷◌, ◌++◌, length, map, get_or, refl, sym, ap, subst, ◌∙◌, arith}
use Rattle.std.specs.Prelude.{if◌then◌else◌, nat_lt, slice_get}
use Rattle.std.proofs.lemmas.Grind.{common_steps}
use Rattle.std.proofs.lemmas.List.{get_or_append_left, length-map}
use Rattle.ov_base.specs.Key.{key_eq}
use Rattle.ov_base.specs.declared.value.Value.{Value}
use Rattle.ov_base.specs.declared.value.Value.TheVariants.{Absent}
use Rattle.ov_functor.specs.Execution.{Map}
use Rattle.ov_functor.specs.Functor.{apply, reads}
use Rattle.ov_functor.specs.Unions.{IsSorted, backwards}
use Rattle.ov_functor.specs.Values.{evaluated, later, latest, upto, valued, value_or}
use Rattle.ov_functor.specs.Windows.{Among, Descends}
use Rattle.ov_functor.specs.declared.item.Item.{Item}
use Rattle.ov_functor.specs.declared.item.Valued.{Valued}
use Rattle.ov_functor.proofs.Latest.{IsLatest, latest-is-latest}
use Rattle.ov_functor.proofs.Unions.{sorted_back}
use Rattle.ov_functor.proofs.WindowValues.{evaluated-versions}
use Rattle.ov_window.specs.Evaluation.{input_value, only, task_value, values_of}
use Rattle.ov_window.specs.Plan.{AreBefore, IsBefore, IsFed, IsPlan, input_for, plan_of, task_of, tasks_of}
use Rattle.ov_window.specs.declared.plan.Input.{Input}
use Rattle.ov_window.specs.declared.plan.Input.TheVariants.{Base, Earlier}
use Rattle.ov_window.specs.declared.plan.Task.{Task}
use Rattle.ov_window.proofs.Drafting.{length_backwards}
use Rattle.ov_window.proofs.Evaluating.{values_snoc}

-- ---- the inputs of a task are before it

before_more : (less more : ℕ) (input : Input) → less ≤ more → IsBefore less input → IsBefore more input
before_more less more (Base value) le before = before
before_more less more (Earlier place) le before = omega (arith, le, before)

input_before : (base : Map) (version : ℕ) (tasks : List Task) (key : List ℕ) → IsBefore (length tasks) (input_for base version tasks key)
input_before base version [] key = tt
input_before base version (task ∷ older) key = by (key_eq task.key key && nat_lt task.version version) (input_before base version older key)
  where
    by : (b : Bool) → IsBefore (length older) (input_for base version older key) → IsBefore (length (task ∷ older)) (if b then Earlier (length older) else input_for base version older key)
    by true rest = omega arith
    by false rest = before_more (length older) (length (task ∷ older)) (input_for base version older key) (omega arith) rest

inputs_before : (base : Map) (version : ℕ) (tasks : List Task) (keys : List (List ℕ)) → AreBefore (length tasks) (map (input_for base version tasks) keys)
inputs_before base version tasks [] = tt
inputs_before base version tasks (key ∷ keys) = (input_before base version tasks key, inputs_before base version tasks keys)

-- the one at a place of a list with one more behind it
got_either : {X : Type 0} (xs : List X) (last x : X) (place : ℕ) → slice_get (xs ++ last ∷ []) place ≡ Some x → (slice_get xs place ≡ Some x) ⊎ ((place ≡ length xs) × (last ≡ x))
got_either [] last x zero there = inr (refl, cc)
got_either [] last x (suc place) there = absurd (cc)
got_either (first ∷ rest) last x zero there = inl there
got_either (first ∷ rest) last x (suc place) there = by (got_either rest last x place there)
  where
    by : (slice_get rest place ≡ Some x) ⊎ ((place ≡ length rest) × (last ≡ x)) → (slice_get (first ∷ rest) (suc place) ≡ Some x) ⊎ ((suc place ≡ length (first ∷ rest)) × (last ≡ x))
    by (inl is) = inl is
    by (inr is) = inr (ap suc is.0, is.1)

-- a plan is fed
tasks_fed : (base : Map) (items : List Item) → IsPlan (backwards (tasks_of base items))
tasks_fed base [] place task there = absurd (cc)
tasks_fed base (item ∷ older) place task there = by (got_either (backwards (tasks_of base older)) (task_of base (tasks_of base older) item) task place there) (tasks_fed base older place task)
  where
    fed : IsFed (length (tasks_of base older)) (task_of base (tasks_of base older) item)
    fed = record {
      count = length-map (reads item.functor) (input_for base item.version (tasks_of base older));
      before = inputs_before base item.version (tasks_of base older) (reads item.functor);
    }

    by : (slice_get (backwards (tasks_of base older)) place ≡ Some task) ⊎ ((place ≡ length (backwards (tasks_of base older))) × (task_of base (tasks_of base older) item ≡ task))
        → (slice_get (backwards (tasks_of base older)) place ≡ Some task → IsFed place task) → IsFed place task
    by (inl is) rest = rest is
    by (inr is) rest =
        let here : place ≡ length (tasks_of base older) = is.0 ∙ length_backwards (tasks_of base older) in
        subst (IsFed place) is.1 (subst (λ (at : ℕ). IsFed at (task_of base (tasks_of base older) item)) (sym here) fed)

pub plan_fed : (base : Map) (items : List Item) → IsPlan (plan_of base items)
plan_fed base items = tasks_fed base (backwards items)

-- ---- the values of the tasks

length_only : (base : Map) (items : List Item) → length (only (backwards (evaluated base items))) ≡ length (tasks_of base items)
length_only base items = length_of (backwards (evaluated base items)) ∙ length_backwards (evaluated base items) ∙ count items
  where
    length_of : (values : List Valued) → length (only values) ≡ length values
    length_of [] = refl
    length_of (value ∷ values) = ap suc (length_of values)

    count : (items : List Item) → length (evaluated base items) ≡ length (tasks_of base items)
    count [] = refl
    count (item ∷ older) = ap suc (count older)

only_both : (front back : List Valued) → only (front ++ back) ≡ only front ++ only back
only_both [] back = refl
only_both (value ∷ front) back = ap (λ rest. value.value ∷ rest) (only_both front back)

map_map : (f : Input → Value) (g : List ℕ → Input) (keys : List (List ℕ)) → map f (map g keys) ≡ map (λ key. f (g key)) keys
map_map f g [] = refl
map_map f g (key ∷ keys) = ap (λ rest. f (g key) ∷ rest) (map_map f g keys)

-- an input before a place has the same value with others behind
input_older : (values others : List Value) (input : Input) → IsBefore (length values) input → input_value (values ++ others) input ≡ input_value values input
input_older values others (Base value) before = refl
input_older values others (Earlier place) before = get_or_append_left values others Absent place before

-- the last of a list
get_last : (values : List Value) (last : Value) → get_or (values ++ last ∷ []) (length values) Absent ≡ last
get_last [] last = refl
get_last (first ∷ rest) last = get_last rest last

-- a value than which none is of a greater version is the latest
later_first : (key : List ℕ) (below : ℕ) (value : Valued) (values : List Valued) → ((other : Valued) → Among other values → other.version ≤ value.version) → later value (latest key below values) ≡ Some value
later_first key below value values most = by (latest key below values) (latest-is-latest key below values)
  where
    by : (found : Option Valued) → IsLatest key below values found → later value found ≡ Some value
    by None none = refl
    by (Some other) best = let le = most other best.within in grind (arith, common_steps)

descends_under : (below : ℕ) (items : List Item) → Descends below items → (item : Item) → Among item items → item.version < below
descends_under below [] falls item among = absurd among
descends_under below (first ∷ older) falls item (inl is) = let less = falls.0 in let same : item.version ≡ first.version = ap (λ (one : Item). one.version) is in omega arith
descends_under below (first ∷ older) falls item (inr later) = let less = falls.0 in let rest = descends_under (suc first.version) older falls.1 item later in omega arith

-- the value of each input is that just below the version
input_right : (base : Map) (below version : ℕ) (key : List ℕ) (items : List Item) → Descends below items
    → input_value (only (backwards (evaluated base items))) (input_for base version (tasks_of base items) key) ≡ upto version base (evaluated base items) key
input_right base below version key [] falls = refl
input_right base below version key (item ∷ older) falls =
    ap (λ values. input_value values (input_for base version (tasks_of base (item ∷ older)) key)) (only_both (backwards (evaluated base older)) (first ∷ []))
    ∙ by (key_eq item.key key && nat_lt item.version version) (input_right base (suc item.version) version key older falls.1)
  where
    first : Valued
    first = valued (upto item.version base (evaluated base older)) item

    most : (other : Valued) → Among other (evaluated base older) → other.version ≤ item.version
    most other among = let less = evaluated-versions base older (λ n. n < suc item.version) (descends_under (suc item.version) older falls.1) other among in omega arith

    by : (b : Bool) → input_value (only (backwards (evaluated base older))) (input_for base version (tasks_of base older) key) ≡ upto version base (evaluated base older) key
        → input_value (only (backwards (evaluated base older)) ++ first.value ∷ []) (if b then Earlier (length (tasks_of base older)) else input_for base version (tasks_of base older) key)
        ≡ value_or (base key) (if b then later first (latest key version (evaluated base older)) else latest key version (evaluated base older))
    by true rest = rw (← length_only base older, later_first key version first (evaluated base older) most) (get_last (only (backwards (evaluated base older))) first.value)
    by false rest =
        input_older (only (backwards (evaluated base older))) (first.value ∷ []) (input_for base version (tasks_of base older) key)
        (subst (λ (at : ℕ). IsBefore at (input_for base version (tasks_of base older) key)) (sym (length_only base older)) (input_before base version (tasks_of base older) key))
        ∙ rest

-- the values of the tasks are those of the items
tasks_right : (base : Map) (below : ℕ) (items : List Item) → Descends below items → values_of (backwards (tasks_of base items)) ≡ only (backwards (evaluated base items))
tasks_right base below [] falls = refl
tasks_right base below (item ∷ older) falls =
    let rest = tasks_right base (suc item.version) older falls.1 in
    let inputs : (λ (key : List ℕ). input_value (only (backwards (evaluated base older))) (input_for base item.version (tasks_of base older) key)) ≡ upto item.version base (evaluated base older) =
    (λ i key. input_right base (suc item.version) item.version key older falls.1 i) in
    let value : task_value (only (backwards (evaluated base older))) (task_of base (tasks_of base older) item) ≡ apply item.functor (map (upto item.version base (evaluated base older)) (reads item.functor)) =
    ap (apply item.functor) (map_map (input_value (only (backwards (evaluated base older)))) (input_for base item.version (tasks_of base older)) (reads item.functor) ∙ ap (λ (m : Map). map m (reads item.functor)) inputs) in
    values_snoc [] (backwards (tasks_of base older)) (task_of base (tasks_of base older) item)
    ∙ ap (λ values. values ++ task_value values (task_of base (tasks_of base older) item) ∷ []) rest
    ∙ ap (λ one. only (backwards (evaluated base older)) ++ one ∷ []) value
    ∙ sym (only_both (backwards (evaluated base older)) (valued (upto item.version base (evaluated base older)) item ∷ []))

-- a number above all versions
above : List Item → ℕ
above [] = 0
above (item ∷ items) = suc item.version + above items

above_all : (items : List Item) (item : Item) → Among item items → item.version < above items
unfolding above
above_all [] item among = absurd among
above_all (first ∷ rest) item (inl is) = let same : item.version ≡ first.version = ap (λ (one : Item). one.version) is in omega arith
above_all (first ∷ rest) item (inr later) = let less = above_all rest item later in omega arith

-- the values of a plan are those of its items
pub plan_right : (base : Map) (items : List Item) → IsSorted items → values_of (plan_of base items) ≡ only (backwards (evaluated base (backwards items)))
plan_right base items sorted = tasks_right base (above items) (backwards items) (sorted_back (above items) items sorted (above_all items))
