-- The values that version lists keep, as the values that are settled; and that values are those of a plan, each at its task's version and key.
use Rattle.std.proofs.Common.{◌≡◌, ℕ, ◌<◌, ◌≤◌, Bool, true, false, ◌&&◌, Option, Some, None, List, [], ◌∷◌, ◌++◌, map, refl, sym, ap, subst, ◌∙◌, arith, inl, inr}
use Rattle.std.specs.Prelude.{if◌then◌else◌, nat_lt}
use Rattle.std.specs.List.{AllByRecursion}
use Rattle.std.specs.Option.{option_map}
use Rattle.std.proofs.lemmas.Bool.{cases_Bool, false_from_ne_true}
use Rattle.ov_base.specs.Key.{key_eq}
use Rattle.ov_base.specs.declared.value.Value.{Value}
use Rattle.ov_functor.specs.Execution.{Map}
use Rattle.ov_functor.specs.Unions.{IsSorted, backwards}
use Rattle.ov_functor.specs.Values.{evaluated, later, latest}
use Rattle.ov_functor.specs.Windows.{Among}
use Rattle.ov_functor.specs.declared.item.Item.{Item}
use Rattle.ov_functor.specs.declared.item.Valued.{Valued}
use Rattle.ov_functor.proofs.Unions.{before_differs}
use Rattle.ov_lists.specs.Entries.{Entry, has_pair, is_at, latest_of, newer, stands_before}
use Rattle.ov_lists.proofs.Entries.{at_pair, has_pair_inserted, latest_inserted}
use Rattle.ov_lists.proofs.Orders.{all_put}
use Rattle.ov_window.specs.Evaluation.{only}
use Rattle.ov_window.specs.Plan.{plan_of, tasks_of}
use Rattle.ov_window.specs.declared.plan.Task.{Task}
use Rattle.ov_window.proofs.Drafting.{backwards_twice}
use Rattle.ov_settler.specs.Settler.{valued_of}
use Rattle.ov_settler.specs.Calls.{entry_of, valued_tasks, with_value, with_values}

-- ---- what version lists keep

-- Of these values the latest of each key below each number is what version lists keep.
abbrev pub AreKept : List Valued → List (Entry Value) → Type 0
AreKept values entries = (key : List ℕ) (below : ℕ) → latest key below values ≡ option_map valued_of (latest_of key below entries)

-- a value is not at this version and key
abbrev pub IsElse : ℕ → List ℕ → Valued → Type 0
IsElse version key value = value.version ≡ version → value.key ≡ key → ⊥

-- none of these values is in version lists, and no version and key stands twice
abbrev pub AreNew : List Valued → List (Entry Value) → Type 0
AreNew [] entries = Unit {0}
AreNew (value ∷ values) entries = ((has_pair value.key value.version entries ≡ false) × AllByRecursion (IsElse value.version value.key) values) × AreNew values entries

-- version lists with values of other versions and keys
lacks_still : (key : List ℕ) (version : ℕ) (values : List Valued) (entries : List (Entry Value)) → has_pair key version entries ≡ false → AllByRecursion (IsElse version key) values → has_pair key version (with_values values entries) ≡ false
lacks_still key version [] entries lacks else_ = lacks
lacks_still key version (value ∷ values) entries lacks else_ =
    let rest = lacks_still key version values entries lacks else_.1 in
    elim (cases_Bool (has_pair value.key value.version (with_values values entries))) [
      | inl there ↦ rw there rest
      | inr gone ↦
          let other : is_at key version (entry_of value) ≡ false = false_from_ne_true (is_at key version (entry_of value)) (λ here. let q = at_pair key version (entry_of value) here in else_.0 q.1 q.0) in
          rw (gone, has_pair_inserted key version (entry_of value) (with_values values entries), other) rest
    ]

-- the later of two is the newer of two
later_newer : (value : Valued) (found : Option (Entry Value)) → later value (option_map valued_of found) ≡ option_map valued_of (newer (Some (entry_of value)) found)
later_newer value None = refl
later_newer value (Some entry) =
    elim (cases_Bool (nat_lt value.version entry.version)) [
      | inl less ↦ rw less refl
      | inr past ↦ rw past refl
    ]

-- a value of a new version and key is kept
kept_one : (value : Valued) (values : List Valued) (entries : List (Entry Value)) → has_pair value.key value.version entries ≡ false → AreKept values entries → AreKept (value ∷ values) (with_value value entries)
kept_one value values entries lacks kept key below =
    rw (lacks, latest_inserted key below (entry_of value) entries lacks, kept key below)
    (by (key_eq value.key key && nat_lt value.version below))
  where
    by : (b : Bool) → (if b then later value (option_map valued_of (latest_of key below entries)) else option_map valued_of (latest_of key below entries))
        ≡ option_map valued_of (newer (if b then Some (entry_of value) else None) (latest_of key below entries))
    by true = later_newer value (latest_of key below entries)
    by false = refl

-- new values are kept with the old ones
pub kept_all : (values old : List Valued) (entries : List (Entry Value)) → AreNew values entries → AreKept old entries → AreKept (values ++ old) (with_values values entries)
kept_all [] old entries new kept = kept
kept_all (value ∷ values) old entries new kept =
    kept_one value (values ++ old) (with_values values entries) (lacks_still value.key value.version values entries new.0.0 new.0.1) (kept_all values old entries new.1 kept)

-- what holds of the versions of all holds of the versions that are kept
pub versions_kept : (P : ℕ → Type 0) (values : List Valued) (entries : List (Entry Value)) → AllByRecursion (λ (value : Valued). P value.version) values → AllByRecursion (λ (entry : Entry Value). P entry.version) entries
    → AllByRecursion (λ (entry : Entry Value). P entry.version) (with_values values entries)
versions_kept P [] entries new old = old
versions_kept P (value ∷ values) entries new old =
    let rest = versions_kept P values entries new.1 old in
    elim (cases_Bool (has_pair value.key value.version (with_values values entries))) [
      | inl there ↦ rw there rest
      | inr gone ↦ rw gone (all_put stands_before (λ (entry : Entry Value). P entry.version) (entry_of value) new.0 (with_values values entries) rest)
    ]

-- a version above all is not there
pub lacks_above : (key : List ℕ) (version number : ℕ) (entries : List (Entry Value)) → number ≤ version → AllByRecursion (λ (entry : Entry Value). entry.version < number) entries → has_pair key version entries ≡ false
lacks_above key version number [] above under = refl
lacks_above key version number (entry ∷ entries) above under =
    let other : is_at key version entry ≡ false = false_from_ne_true (is_at key version entry) (λ here. let q = at_pair key version entry here in let less = under.0 in omega (arith, q.1, less, above)) in
    rw other (lacks_above key version number entries above under.1)

-- ---- the places of items, tasks and values

abbrev pub item_place : Item → ℕ × List ℕ
item_place item = (item.version, item.key)

abbrev pub task_place : Task → ℕ × List ℕ
task_place task = (task.version, task.key)

abbrev pub value_place : Valued → ℕ × List ℕ
value_place value = (value.version, value.key)

map_both : {A B : Type 0} (f : A → B) (xs ys : List A) → map f (xs ++ ys) ≡ map f xs ++ map f ys
map_both f [] ys = refl
map_both f (x ∷ xs) ys = ap (λ rest. f x ∷ rest) (map_both f xs ys)

map_backwards : {A B : Type 0} (f : A → B) (xs : List A) → map f (backwards xs) ≡ backwards (map f xs)
map_backwards f [] = refl
map_backwards f (x ∷ xs) = map_both f (backwards xs) (x ∷ []) ∙ ap (λ front. front ++ f x ∷ []) (map_backwards f xs)

task_places : (base : Map) (items : List Item) → map task_place (tasks_of base items) ≡ map item_place items
task_places base [] = refl
task_places base (item ∷ older) = ap (λ rest. item_place item ∷ rest) (task_places base older)

value_places : (base : Map) (items : List Item) → map value_place (evaluated base items) ≡ map item_place items
value_places base [] = refl
value_places base (item ∷ older) = ap (λ rest. item_place item ∷ rest) (value_places base older)

item_places_back : (items : List Item) → backwards (map item_place (backwards items)) ≡ map item_place items
item_places_back items = sym (map_backwards item_place (backwards items)) ∙ ap (map item_place) (backwards_twice items)

-- a plan has the places of its items
plan_places : (base : Map) (items : List Item) → map task_place (plan_of base items) ≡ map item_place items
plan_places base items = map_backwards task_place (tasks_of base (backwards items)) ∙ (ap backwards (task_places base (backwards items)) ∙ item_places_back items)

-- and so have the values of the items
pub settled_places : (base : Map) (items : List Item) → map value_place (backwards (evaluated base (backwards items))) ≡ map item_place items
settled_places base items = map_backwards value_place (evaluated base (backwards items)) ∙ (ap backwards (value_places base (backwards items)) ∙ item_places_back items)

abbrev front_of : (ℕ × List ℕ) → List (ℕ × List ℕ) → ℕ × List ℕ
front_of other [] = other
front_of other (x ∷ xs) = x

abbrev behind_of : List (ℕ × List ℕ) → List (ℕ × List ℕ)
behind_of [] = []
behind_of (x ∷ xs) = xs

-- values at the places of tasks are the tasks' values at their places
zipped : (tasks : List Task) (values : List Valued) → map task_place tasks ≡ map value_place values → valued_tasks tasks (only values) ≡ values
zipped [] [] same = refl
zipped [] (value ∷ values) same = absurd cc
zipped (task ∷ tasks) [] same = absurd cc
zipped (task ∷ tasks) (value ∷ values) same =
    let first : task_place task ≡ value_place value = ap (front_of (task_place task)) same in
    let rest : map task_place tasks ≡ map value_place values = ap behind_of same in
    let at : record { version = task.version; key = task.key; value = value.value } ≡ value = ap (λ (place : ℕ × List ℕ). record { version = place.0; key = place.1; value = value.value }) first in
    (λ i. at i ∷ zipped tasks values rest i)

-- the values of a plan, each at its task's version and key, are those of the items
pub plan_valued : (base : Map) (items : List Item) → valued_tasks (plan_of base items) (only (backwards (evaluated base (backwards items)))) ≡ backwards (evaluated base (backwards items))
plan_valued base items = zipped (plan_of base items) (backwards (evaluated base (backwards items))) (plan_places base items ∙ sym (settled_places base items))

-- ---- values at the places of items

-- what holds of the places of items holds of values there
pub at_places : (P : ℕ × List ℕ → Type 0) (values : List Valued) (items : List Item) → map value_place values ≡ map item_place items → ((item : Item) → Among item items → P (item_place item))
    → AllByRecursion (λ (value : Valued). P (value_place value)) values
at_places P [] items same each = tt
at_places P (value ∷ values) [] same each = absurd cc
at_places P (value ∷ values) (item ∷ items) same each =
    let first : value_place value ≡ item_place item = ap (front_of (value_place value)) same in
    (subst P (sym first) (each item (inl refl)), at_places P values items (ap behind_of same) (λ other among. each other (inr among)))

-- values at the places of sorted items, none below a number, are new over values below it
pub all_new : (number : ℕ) (values : List Valued) (items : List Item) (entries : List (Entry Value)) → map value_place values ≡ map item_place items → IsSorted items → ((item : Item) → Among item items → number ≤ item.version)
    → AllByRecursion (λ (entry : Entry Value). entry.version < number) entries → AreNew values entries
all_new number [] items entries same sorted above under = tt
all_new number (value ∷ values) [] entries same sorted above under = absurd cc
all_new number (value ∷ values) (item ∷ items) entries same sorted above under =
    let first : value_place value ≡ item_place item = ap (front_of (value_place value)) same in
    let rest : map value_place values ≡ map item_place items = ap behind_of same in
    let version : value.version ≡ item.version = ap (λ (place : ℕ × List ℕ). place.0) first in
    let key : value.key ≡ item.key = ap (λ (place : ℕ × List ℕ). place.1) first in
    let here : number ≤ item.version = above item (inl refl) in
    let others = at_places (λ place. place.0 ≡ value.version → place.1 ≡ value.key → ⊥) values items rest (λ other among v k. before_differs item other (sorted.0 other among) (sym (v ∙ version)) (sym (k ∙ key))) in
    ((lacks_above value.key value.version number entries (omega (arith, here, version)) under, others), all_new number values items entries rest sorted.1 (λ other among. above other (inr among)) under)
