-- Plans as they are made: an item more, and that the whole is the plan.
use Rattle.std.proofs.Common.{◌≡◌, ℕ, zero, suc, ◌+◌, Bool, true, false, ◌&&◌, ◌||◌, inl, inr, Option, Some, None, List, [], ◌∷◌, ◌++◌, length, map, take, refl, sym, ap, subst, ◌∙◌, arith}
use Rattle.std.specs.Prelude.{if◌then◌else◌, nat_lt, slice_get}
use Rattle.std.specs.List.{AllByRecursion}
use Rattle.std.proofs.lemmas.Bool.{both_ways}
use Rattle.std.proofs.lemmas.Grind.{common_steps}
use Rattle.std.proofs.lemmas.List.{append-nil, append_assoc, length_push}
use Rattle.ov_base.proofs.Lists.{all_weaker, map_same}
use Rattle.ov_base.specs.Key.{key_eq}
use Rattle.ov_functor.specs.Execution.{Map}
use Rattle.ov_functor.specs.Functor.{reads}
use Rattle.ov_functor.specs.Unions.{IsSorted, backwards, precedes}
use Rattle.ov_functor.specs.Windows.{Among, HasItem}
use Rattle.ov_functor.specs.declared.item.Item.{Item}
use Rattle.ov_functor.proofs.Among.{among_back}
use Rattle.ov_functor.proofs.Unions.{backwards_has, before_differs, before_is_under}
use Rattle.ov_lists.specs.Entries.{Contents, Entry, Inserts, has_pair, inserted, is_at, latest_of, newer, stands_before}
use Rattle.ov_lists.proofs.Entries.{at_pair, latest_from, latest_inserted}
use Rattle.ov_lists.proofs.Orders.{all_holds, all_put}
use Rattle.ov_window.specs.Drafts.{IsDraft, input_at, input_by}
use Rattle.ov_window.specs.Plan.{input_for, plan_of, tasks_of}
use Rattle.ov_window.specs.declared.plan.Input.{Input}
use Rattle.ov_window.specs.declared.plan.Input.TheVariants.{Earlier}
use Rattle.ov_window.specs.declared.plan.Task.{Task}

-- ---- lists

-- a function of one more element
pub map_more : {A X : Type 0} (f : A → X) (xs : List A) (i : ℕ) (x : A) → slice_get xs i ≡ Some x → map f (take (i + 1) xs) ≡ map f (take i xs) ++ f x ∷ []
map_more f [] i x there = absurd (cc)
map_more f (first ∷ rest) zero x there = let is : first ≡ x = cc in ap (λ one. f one ∷ []) is
map_more f (first ∷ rest) (suc i) x there = let next : suc i + 1 ≡ suc (i + 1) = omega arith in rw next (ap (λ more. f first ∷ more) (map_more f rest i x there))

-- a list backwards is as long
pub length_backwards : {A : Type 0} (xs : List A) → length (backwards xs) ≡ length xs
length_backwards [] = refl
length_backwards (x ∷ xs) = omega (arith, length_push (backwards xs) x, length_backwards xs)

-- two lists backwards, the second first
pub backwards_both : {A : Type 0} (xs ys : List A) → backwards (xs ++ ys) ≡ backwards ys ++ backwards xs
backwards_both [] ys = sym (append-nil (backwards ys))
backwards_both (x ∷ xs) ys = ap (λ all. all ++ x ∷ []) (backwards_both xs ys) ∙ append_assoc (backwards ys) (backwards xs) (x ∷ [])

-- a list backwards and backwards again
pub backwards_twice : {A : Type 0} (xs : List A) → backwards (backwards xs) ≡ xs
backwards_twice [] = refl
backwards_twice (x ∷ xs) = backwards_both (backwards xs) (x ∷ []) ∙ ap (λ all. x ∷ all) (backwards_twice xs)

-- ---- the places

-- items before a later one have none of its version and key
lacks : (older : List Item) (item : Item) (places : List (Entry ℕ)) → AllByRecursion (λ entry. HasItem older entry.version entry.key) places
    → ((other : Item) → Among other older → precedes other item ≡ true) → has_pair item.key item.version places ≡ false
lacks older item [] known before = refl
lacks older item (entry ∷ places) known before = by (is_at item.key item.version entry) refl (lacks older item places known.1 before)
  where
    by : (b : Bool) → is_at item.key item.version entry ≡ b → has_pair item.key item.version places ≡ false → (b || has_pair item.key item.version places) ≡ false
    by false is rest = rest
    by true is rest =
        let same = at_pair item.key item.version entry is in
        absurd (before_differs known.0.found item (before known.0.found known.0.within) (known.0.version_is ∙ same.1) (known.0.key_is ∙ same.0))

-- what an insertion of a new pair leaves
pub insertion : (old more : Contents ℕ) (new : Entry ℕ) (is_new : Bool) → Inserts old more new is_new → has_pair new.key new.version old.entries ≡ false → more.entries ≡ inserted new old.entries
insertion old more new true inserts none = inserts.1.0
insertion old more new false inserts none = absurd (both_ways (has_pair new.key new.version old.entries) none inserts.0)

-- the newest of a key among the places has no greater version than a later item
no_newer : (older : List Item) (item : Item) (places : List (Entry ℕ)) (version : ℕ) (key : List ℕ) (entry : Entry ℕ) → AllByRecursion (λ entry. HasItem older entry.version entry.key) places
    → ((other : Item) → Among other older → precedes other item ≡ true) → latest_of key version places ≡ Some entry → nat_lt item.version entry.version ≡ false
no_newer older item places version key entry known before is =
    let has = all_holds (λ (e : Entry ℕ). HasItem older e.version e.key) places entry known (latest_from key version places entry is).0 in
    let under = before_is_under has.found item (before has.found has.within) in
    let same = has.version_is in
    grind (arith, common_steps)

-- the inputs with one more place
inputs_more : (base : Map) (older : List Item) (item : Item) (count : ℕ) (places : List (Entry ℕ)) → AllByRecursion (λ entry. HasItem older entry.version entry.key) places
    → ((other : Item) → Among other older → precedes other item ≡ true) → count ≡ length (tasks_of base older) → (version : ℕ) (key : List ℕ)
    → input_for base version (tasks_of base older) key ≡ input_at base places version key
    → input_for base version (tasks_of base (item ∷ older)) key ≡ input_at base (inserted (record { key = item.key; version = item.version; item = count }) places) version key
inputs_more base older item count places known before count_is version key same =
    by (key_eq item.key key && nat_lt item.version version) (latest_of key version places) refl refl
    ∙ ap (input_by (base key)) (sym (latest_inserted key version new places (lacks older item places known before)))
  where
    new : Entry ℕ
    new = record { key = item.key; version = item.version; item = count }

    by : (b : Bool) (old : Option (Entry ℕ)) → (key_eq item.key key && nat_lt item.version version) ≡ b → latest_of key version places ≡ old
        → (if key_eq item.key key && nat_lt item.version version then Earlier (length (tasks_of base older)) else input_for base version (tasks_of base older) key)
        ≡ input_by (base key) (newer (if key_eq item.key key && nat_lt item.version version then Some new else None) (latest_of key version places))
    by false old b_is old_is = rw b_is same
    by true None b_is old_is = rw (b_is, old_is) (ap Earlier (sym count_is))
    by true (Some entry) b_is old_is = rw (b_is, old_is, no_newer older item places version key entry known before old_is) (ap Earlier (sym count_is))

-- ---- one item more

-- items that have one of a version and key have it with one more
has_more : (first : Item) (older : List Item) (version : ℕ) (key : List ℕ) → HasItem older version key → HasItem (first ∷ older) version key
has_more first older version key has = record { found = has.found; within = inr has.within; version_is = has.version_is; key_is = has.key_is }

-- a draft with one item more, which stands behind all
pub draft_more : (base : Map) (older : List Item) (tasks : List Task) (places more : List (Entry ℕ)) (item : Item) (inputs : List Input) → IsDraft base older tasks places
    → ((other : Item) → Among other older → precedes other item ≡ true) → inputs ≡ map (input_at base places item.version) (reads item.functor)
    → (has_pair item.key item.version places ≡ false → more ≡ inserted (record { key = item.key; version = item.version; item = length tasks }) places)
    → IsDraft base (item ∷ older) (tasks ++ record { version = item.version; key = item.key; functor = item.functor; inputs = inputs } ∷ []) more
draft_more base older tasks places more item inputs draft before inputs_are insert =
    let none = lacks older item places draft.known before in
    let more_is = insert none in
    let count : length tasks ≡ length (tasks_of base older) = ap length draft.tasks_are ∙ length_backwards (tasks_of base older) in
    let read : inputs ≡ map (input_for base item.version (tasks_of base older)) (reads item.functor) =
    inputs_are ∙ map_same (input_for base item.version (tasks_of base older)) (input_at base places item.version) (reads item.functor) (λ key. sym (draft.inputs item.version key)) in
    record {
      tasks_are = λ i. draft.tasks_are i ++ record { version = item.version; key = item.key; functor = item.functor; inputs = read i } ∷ [];
      known = subst (AllByRecursion (λ entry. HasItem (item ∷ older) entry.version entry.key)) (sym more_is)
          (all_put stands_before (λ entry. HasItem (item ∷ older) entry.version entry.key) _ (record { found = item; within = inl refl; version_is = refl; key_is = refl }) places
          (all_weaker (λ entry. HasItem older entry.version entry.key) (λ entry. HasItem (item ∷ older) entry.version entry.key) (λ entry. has_more item older entry.version entry.key) places draft.known));
      inputs = λ version key. inputs_more base older item (length tasks) places draft.known before count version key (draft.inputs version key) ∙ ap (λ now. input_at base now version key) (sym more_is);
    }

-- ---- the whole

-- Of all items some are done, newest first, and these are left.
pub record Partway (base : Map) (all left : List Item) (tasks : List Task) (places : List (Entry ℕ)) : Type 0 where
  pub done : List Item
  pub parts : backwards done ++ left ≡ all
  pub draft : IsDraft base done tasks places

-- at the beginning nothing is done
pub begun : (base : Map) (all : List Item) → Partway base all all [] []
begun base all = record { done = []; parts = refl; draft = record { tasks_are = refl; known = tt; inputs = λ version key. refl } }

-- what stands in front of an item of a sorted list stands before it
front_before : (front : List Item) (item : Item) (rest : List Item) → IsSorted (front ++ item ∷ rest) → (other : Item) → Among other front → precedes other item ≡ true
front_before [] item rest sorted other among = absurd among
front_before (first ∷ front) item rest sorted other (inl is) = subst (λ (one : Item). precedes one item ≡ true) (sym is) (sorted.0 item (among_back item front (item ∷ rest) (inl refl)))
front_before (first ∷ front) item rest sorted other (inr later) = front_before front item rest sorted.1 other later

-- of sorted items the next stands behind all that are done
pub next_behind : (base : Map) (all : List Item) (item : Item) (left : List Item) (tasks : List Task) (places : List (Entry ℕ)) → IsSorted all → (partway : Partway base all (item ∷ left) tasks places)
    → (other : Item) → Among other partway.done → precedes other item ≡ true
next_behind base all item left tasks places sorted partway other among =
    front_before (backwards partway.done) item left (subst IsSorted (sym partway.parts) sorted) other (backwards_has other partway.done among)

-- with the next item done
pub one_done : (base : Map) (all : List Item) (item : Item) (left : List Item) (tasks more : List Task) (places now : List (Entry ℕ)) → (partway : Partway base all (item ∷ left) tasks places)
    → IsDraft base (item ∷ partway.done) more now → Partway base all left more now
one_done base all item left tasks more places now partway draft = record {
  done = item ∷ partway.done;
  parts = append_assoc (backwards partway.done) (item ∷ []) left ∙ partway.parts;
  draft = draft;
}

-- where nothing is left the tasks are the plan
pub all_done : (base : Map) (all : List Item) (tasks : List Task) (places : List (Entry ℕ)) → Partway base all [] tasks places → tasks ≡ plan_of base all
all_done base all tasks places partway =
    let is : partway.done ≡ backwards all = sym (backwards_twice partway.done) ∙ ap backwards (sym (append-nil (backwards partway.done)) ∙ partway.parts) in
    partway.draft.tasks_are ∙ ap (λ items. backwards (tasks_of base items)) is
