-- Lists: what holds of each of one, and what stands at a place.
use Rattle.std.proofs.Common.{◌≡◌, ℕ, zero, suc, ◌+◌, ◌-◌, ◌<◌, ◌≤◌, Bool, List, [], ◌∷◌, ◌++◌, map, length, get_or, drop, filter, Some, refl, sym, ap, ◌∙◌, arith, inl, inr}
use Rattle.std.specs.Prelude.{slice_get}
use Rattle.std.specs.List.{AllByRecursion}
use Rattle.std.proofs.lemmas.Bool.{cases_Bool}
use Rattle.std.proofs.lemmas.List.{drop_more}

-- ---- what holds of each of a list

-- what holds of all of a list holds of each
pub all_weaker : {A : Type 0} (P Q : A → Type 0) → ((x : A) → P x → Q x) → (xs : List A) → AllByRecursion P xs → AllByRecursion Q xs
all_weaker P Q more [] h = tt
all_weaker P Q more (x ∷ xs) h = (more x h.0, all_weaker P Q more xs h.1)

-- what holds of each holds of the one at a place
pub all_at : {A : Type 0} (P : A → Type 0) (xs : List A) (k : ℕ) (d : A) → k < length xs → AllByRecursion P xs → P (get_or xs k d)
all_at P [] k d lt h = absurd (omega arith)
all_at P (x ∷ xs) zero d lt h = h.0
all_at P (x ∷ xs) (suc k) d lt h = all_at P xs k d (omega arith) h.1

-- what holds of each of two lists holds of each of both, one behind the other
pub all_appended : {A : Type 0} (P : A → Type 0) (xs ys : List A) → AllByRecursion P xs → AllByRecursion P ys → AllByRecursion P (xs ++ ys)
all_appended P [] ys h k = k
all_appended P (x ∷ xs) ys h k = (h.0, all_appended P xs ys h.1 k)

-- what holds of each holds of each that a test leaves
pub all_filter : {A : Type 0} (p : A → Bool) (P : A → Type 0) (xs : List A) → AllByRecursion P xs → AllByRecursion P (filter p xs)
all_filter p P [] h = tt
all_filter p P (x ∷ xs) h =
    elim (cases_Bool (p x)) [
      | inl yes_here ↦ rw yes_here (h.0, all_filter p P xs h.1)
      | inr not_here ↦ rw not_here (all_filter p P xs h.1)
    ]

-- ---- what stands at a place

-- what stands at a place of a list stands there with more behind the list
pub get_front : {X : Type 0} (xs ys : List X) (i : ℕ) (x : X) → slice_get xs i ≡ Some x → slice_get (xs ++ ys) i ≡ Some x
get_front [] ys i x h = cc
get_front (y ∷ xs) ys zero x h = h
get_front (y ∷ xs) ys (suc i) x h = get_front xs ys i x h

-- one more stands at the place behind the last
pub get_next : {X : Type 0} (xs : List X) (x : X) → slice_get (xs ++ x ∷ []) (length xs) ≡ Some x
get_next [] x = refl
get_next (y ∷ xs) x = get_next xs x

-- the list from before a place on
pub drop_before : {X : Type 0} (xs : List X) (place : ℕ) (x : X) → 0 < place → place ≤ length xs → x ≡ get_or xs (place - 1) x → drop (place - 1) xs ≡ x ∷ drop place xs
drop_before xs place x some le at =
    let next : (place - 1) + 1 ≡ place = omega arith in
    drop_more xs (place - 1) x (omega arith) ∙ ap (λ n. get_or xs (place - 1) x ∷ drop n xs) next ∙ ap (λ y. y ∷ drop place xs) (sym at)

-- ---- equal lists

-- two functions that agree give the same list
pub map_same : {A X : Type 0} (f g : A → X) (items : List A) → ((item : A) → g item ≡ f item) → map g items ≡ map f items
map_same f g [] same = refl
map_same {A} {X} f g (item ∷ items) same = rw (same item) (ap (λ (t : List X). f item ∷ t) (map_same f g items same))

-- a prefix of nothing is nothing
pub front_of_nothing : {X : Type 0} (front back : List X) → [] ≡ front ++ back → front ≡ []
front_of_nothing [] back e = refl
front_of_nothing (x ∷ front) back e = absurd cc
