-- Lists that ascend: an element at its place, those that a test leaves, and that such a list is determined by its elements.
use Rattle.std.proofs.Common.{◌≡◌, ℕ, zero, suc, ◌<◌, ◌⊎◌, Bool, true, false, List, [], ◌∷◌, length, get_or, filter, refl, sym, ap, subst, ◌∙◌, arith, inl, inr}
use Rattle.std.specs.List.{AllByRecursion}
use Rattle.std.proofs.lemmas.Bool.{cases_Bool, both_ways}
use Rattle.ov_base.proofs.Lists.{all_weaker, all_at, all_filter}
use Rattle.ov_lists.specs.Entries.{IsBeforeFirst, Ascends, put}

-- what holds of all of a list and of one more holds of the list with that
pub all_put : {A : Type 0} (before : A → A → Bool) (P : A → Type 0) (new : A) → P new → (xs : List A) → AllByRecursion P xs → AllByRecursion P (put before new xs)
all_put before P new here [] h = (here, tt)
all_put before P new here (x ∷ xs) h =
    elim (cases_Bool (before x new)) [
      | inl less ↦ rw less (h.0, all_put before P new here xs h.1)
      | inr past ↦ rw past (here, h)
    ]

-- ---- each before all that follow

-- Each of a list stands before all that follow.
abbrev pub Rises : {A : Type 0} → (A → A → Bool) → List A → Type 0
Rises before [] = Unit {0}
Rises before (x ∷ xs) = AllByRecursion (λ y. before x y ≡ true) xs × Rises before xs

module _ {A : Type 0} (before : A → A → Bool) (trans : (x y z : A) → before x y ≡ true → before y z ≡ true → before x z ≡ true) where
  first_behind : (x : A) (xs : List A) → IsBeforeFirst before x xs → Rises before xs → AllByRecursion (λ y. before x y ≡ true) xs
  first_behind x [] first h = tt
  first_behind x (y ∷ ys) first h = (first, all_weaker (λ z. before y z ≡ true) (λ z. before x z ≡ true) (λ z more. trans x y z first more) ys h.0)

  pub rises_from : (xs : List A) → Ascends before xs → Rises before xs
  rises_from [] h = tt
  rises_from (x ∷ xs) h = let rest = rises_from xs h.1 in (first_behind x xs h.0 rest, rest)

  -- of two places the lower one stands before
  pub ascends_far : (xs : List A) → Ascends before xs → (i j : ℕ) (d : A) → i < j → j < length xs → before (get_or xs i d) (get_or xs j d) ≡ true
  ascends_far [] h i j d lt within = absurd (omega arith)
  ascends_far (x ∷ xs) h i zero d lt within = absurd (omega arith)
  ascends_far (x ∷ xs) h zero (suc j) d lt within = all_at (λ y. before x y ≡ true) xs j d (omega arith) (rises_from (x ∷ xs) h).0
  ascends_far (x ∷ xs) h (suc i) (suc j) d lt within = ascends_far xs h.1 i j d (omega arith) (omega arith)

  -- one more at its place, where each of the others stands before it or behind it
  pub rises_put : (new : A) (xs : List A) → Rises before xs → AllByRecursion (λ x. (before x new ≡ true) ⊎ (before new x ≡ true)) xs → Rises before (put before new xs)
  rises_put new [] h apart = (tt, tt)
  rises_put new (x ∷ xs) h apart =
      elim (cases_Bool (before x new)) [
        | inl less ↦ rw less (all_put before (λ y. before x y ≡ true) new less xs h.0, rises_put new xs h.1 apart.1)
        | inr past ↦ rw past
            (let behind : before new x ≡ true = elim apart.0 [ inl less ↦ absurd (both_ways _ past less) | inr more ↦ more ] in
            ((behind, all_weaker (λ y. before x y ≡ true) (λ y. before new y ≡ true) (λ y more. trans new x y behind more) xs h.0), h))
      ]

first_from : {A : Type 0} (before : A → A → Bool) (x : A) (xs : List A) → AllByRecursion (λ y. before x y ≡ true) xs → IsBeforeFirst before x xs
first_from before x [] h = tt
first_from before x (y ∷ ys) h = h.0

pub ascends_from : {A : Type 0} (before : A → A → Bool) (xs : List A) → Rises before xs → Ascends before xs
ascends_from before [] h = tt
ascends_from before (x ∷ xs) h = (first_from before x xs h.0, ascends_from before xs h.1)

pub rises_filter : {A : Type 0} (before : A → A → Bool) (p : A → Bool) (xs : List A) → Rises before xs → Rises before (filter p xs)
rises_filter before p [] h = tt
rises_filter before p (x ∷ xs) h =
    elim (cases_Bool (p x)) [
      | inl kept ↦ rw kept (all_filter p (λ y. before x y ≡ true) xs h.0, rises_filter before p xs h.1)
      | inr left_out ↦ rw left_out (rises_filter before p xs h.1)
    ]

-- ---- elements

-- A list holds an element.
abbrev pub Holds : {A : Type 0} → List A → A → Type 0
Holds [] x = ⊥
Holds (y ∷ ys) x = (x ≡ y) ⊎ Holds ys x

pub all_holds : {A : Type 0} (P : A → Type 0) (xs : List A) (x : A) → AllByRecursion P xs → Holds xs x → P x
all_holds P [] x all h = absurd h
all_holds P (y ∷ ys) x all h = elim h [ inl same ↦ subst P (sym same) all.0 | inr more ↦ all_holds P ys x all.1 more ]

-- each of a list is in it
pub holds_each : {A : Type 0} (xs : List A) → AllByRecursion (Holds xs) xs
holds_each [] = tt
holds_each (x ∷ xs) = (inl refl, all_weaker (Holds xs) (Holds (x ∷ xs)) (λ y more. inr more) xs (holds_each xs))

pub holds_new : {A : Type 0} (before : A → A → Bool) (new : A) (xs : List A) → Holds (put before new xs) new
holds_new before new [] = inl refl
holds_new before new (x ∷ xs) =
    elim (cases_Bool (before x new)) [
      | inl less ↦ rw less (inr (holds_new before new xs))
      | inr past ↦ rw past (inl refl)
    ]

pub holds_old : {A : Type 0} (before : A → A → Bool) (new : A) (xs : List A) (y : A) → Holds xs y → Holds (put before new xs) y
holds_old before new [] y h = absurd h
holds_old before new (x ∷ xs) y h =
    elim (cases_Bool (before x new)) [
      | inl less ↦ rw less (elim h [ inl same ↦ inl same | inr more ↦ inr (holds_old before new xs y more) ])
      | inr past ↦ rw past (inr h)
    ]

-- ---- a list that rises is determined by its elements

module _ {A : Type 0} (before : A → A → Bool) (trans : (x y z : A) → before x y ≡ true → before y z ≡ true → before x z ≡ true) (itself : (x : A) → before x x ≡ false) where
  -- what is in both but not the first of the one is in the rest of the other
  rest_holds : (x : A) (xs ys : List A) → AllByRecursion (λ y. before x y ≡ true) xs → AllByRecursion (Holds (x ∷ ys)) xs → AllByRecursion (Holds ys) xs
  rest_holds x [] ys behind h = tt
  rest_holds x (z ∷ zs) ys behind h =
      (elim h.0 [ inl same ↦ absurd (both_ways _ (itself x) (subst (λ (t : A). before x t ≡ true) same behind.0)) | inr more ↦ more ], rest_holds x zs ys behind.1 h.1)

  pub rises_unique : (xs ys : List A) → Rises before xs → Rises before ys → AllByRecursion (Holds ys) xs → AllByRecursion (Holds xs) ys → xs ≡ ys
  rises_unique [] [] h g there back = refl
  rises_unique [] (y ∷ ys) h g there back = absurd back.0
  rises_unique (x ∷ xs) [] h g there back = absurd there.0
  rises_unique (x ∷ xs) (y ∷ ys) h g there back =
      let same : x ≡ y =
      elim there.0 [
        | inl here ↦ here
        | inr later ↦ elim back.0 [
          | inl here ↦ sym here
          | inr too ↦ absurd (both_ways _ (itself x) (trans x y x (all_holds (λ z. before x z ≡ true) xs y h.0 too) (all_holds (λ z. before y z ≡ true) ys x g.0 later)))
        ]
      ] in
      let there' : AllByRecursion (Holds (x ∷ ys)) xs = subst (λ (t : A). AllByRecursion (Holds (t ∷ ys)) xs) (sym same) there.1 in
      let behind' : AllByRecursion (λ z. before x z ≡ true) ys = subst (λ (t : A). AllByRecursion (λ z. before t z ≡ true) ys) (sym same) g.0 in
      let rest = rises_unique xs ys h.1 g.1 (rest_holds x xs ys h.0 there') (rest_holds x ys xs behind' back.1) in
      ap (λ (t : A). t ∷ xs) same ∙ ap (λ (t : List A). y ∷ t) rest
