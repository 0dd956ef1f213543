-- Lemmas that the code cites for the laws of its types. Each is proved, and nothing here has to be believed.
use Rattle.std.proofs.Common.{arith, inl, inr, take-append-drop, length-take-le}
use Rattle.std.proofs.lemmas.Grind.{common_steps}
use Rattle.std.proofs.lemmas.Nat.{div-mul-add, mod-mul-add}
use Rattle.std.specs.Cmp.{IsPartialEquivalence, IsEquivalence, IsPartialOrder, int_eq_equiv, nat_eq_equiv, unsigned_po, unsigned_ties}
use Rattle.std.specs.Cmp.Lexicographic.{pointwise, slice_cmp, lists_per, lists_equiv, nat_list_eq_equiv, texts_po, texts_ties}
use Rattle.std.specs.Ordering.{nat_cmp, eq_by_cmp}
use Rattle.std.specs.Prelude.{◌≡◌, ◌==◌, ℕ, ℤ, ◌-◌, Bool, true, false, ◌⊎◌, ◌&&◌, nat_eq, List, [], ◌∷◌, ◌++◌, length, take, replicate, Some, refl}
use Rattle.ov_base.specs.Amount.{amount_eq}
use Rattle.ov_base.specs.Exact.{lists_same}
use Rattle.ov_base.specs.Key.{key_eq, key_room, IsPadded}
use Rattle.ov_base.specs.Number.{number_eq}
use Rattle.ov_base.specs.Version.{number, time_of, gate_of, gate_limit, IsInForm}

-- ---- exact tests: a test of equality that holds of equal things alone, and how it passes to lists

both : (a b : Bool) → (a && b) ≡ true → (a ≡ true) × (b ≡ true)
both true b h = (refl, h)
both false b h = cc

-- where the test of the elements holds of equal elements alone, so does that of the lists
pub pointwise-exact : {A : Type 0} (E : A → A → Bool) → ((x y : A) → E x y ≡ true → x ≡ y) → (xs ys : List A) → pointwise E xs ys ≡ true → xs ≡ ys
pointwise-exact E exact [] [] h = refl
pointwise-exact E exact [] (y ∷ ys) h = cc
pointwise-exact E exact (x ∷ xs) [] h = cc
pointwise-exact E exact (x ∷ xs) (y ∷ ys) h =
    let parts = both (E x y) (pointwise E xs ys) h in
    let first = exact x y parts.0 in
    let rest = pointwise-exact E exact xs ys parts.1 in
    cc

pub lists_same-per : {A : Type 0} {E : A → A → Bool} → IsPartialEquivalence E → IsPartialEquivalence (lists_same E)
unfolding lists_same
lists_same-per p = lists_per p

pub lists_same-equiv : {A : Type 0} {E : A → A → Bool} → IsEquivalence E → IsEquivalence (lists_same E)
unfolding lists_same
lists_same-equiv e = lists_equiv e

pub lists_same-exact : {A : Type 0} (E : A → A → Bool) → ((x y : A) → E x y ≡ true → x ≡ y) → (xs ys : List A) → lists_same E xs ys ≡ true → xs ≡ ys
unfolding lists_same
lists_same-exact E exact xs ys h = pointwise-exact E exact xs ys h

-- the same facts in the form that `grind` applies by itself: a test fails, or the two are the same
pub fails_or_same : {P : Type 0} (b : Bool) → (b ≡ true → P) → (b ≡ false) ⊎ P
fails_or_same true h = inr (h refl)
fails_or_same false h = inl refl

pub lists_same-cases : {A : Type 0} (E : A → A → Bool) → ((x y : A) → E x y ≡ true → x ≡ y) → (xs ys : List A) → (lists_same E xs ys ≡ false) ⊎ (xs ≡ ys)
lists_same-cases E exact xs ys = fails_or_same (lists_same E xs ys) (lists_same-exact E exact xs ys)

-- ---- numbers

pub nat_eq-exact : (x y : ℕ) → (x == y) ≡ true → x ≡ y
nat_eq-exact x y h = grind (arith, common_steps)

pub number_eq-equiv : IsEquivalence number_eq
unfolding number_eq
number_eq-equiv = nat_eq_equiv

pub number_eq-order : IsPartialOrder number_eq (λ x y. Some (nat_cmp x y))
unfolding number_eq
number_eq-order = unsigned_po

pub number_eq-ties : (x y : ℕ) → number_eq x y ≡ eq_by_cmp nat_cmp x y
unfolding number_eq
number_eq-ties x y = unsigned_ties x y

pub number_eq-exact : (x y : ℕ) → number_eq x y ≡ true → x ≡ y
unfolding number_eq
number_eq-exact x y h = nat_eq-exact x y h

pub number_eq-cases : (x y : ℕ) → (number_eq x y ≡ false) ⊎ (x ≡ y)
number_eq-cases x y = fails_or_same (number_eq x y) (number_eq-exact x y)

-- ---- amounts

pub amount_eq-equiv : IsEquivalence amount_eq
unfolding amount_eq
amount_eq-equiv = int_eq_equiv

pub amount_eq-exact : (x y : ℤ) → amount_eq x y ≡ true → x ≡ y
unfolding amount_eq
amount_eq-exact x y h = grind (arith, common_steps)

pub amount_eq-cases : (x y : ℤ) → (amount_eq x y ≡ false) ⊎ (x ≡ y)
amount_eq-cases x y = fails_or_same (amount_eq x y) (amount_eq-exact x y)

-- ---- keys

pub key_eq-equiv : IsEquivalence key_eq
unfolding key_eq
key_eq-equiv = nat_list_eq_equiv

pub key_eq-order : IsPartialOrder key_eq (λ x y. Some (slice_cmp nat_cmp x y))
unfolding key_eq
key_eq-order = texts_po

pub key_eq-ties : (x y : List ℕ) → key_eq x y ≡ eq_by_cmp (slice_cmp nat_cmp) x y
unfolding key_eq
key_eq-ties x y = texts_ties x y

pub key_eq-exact : (x y : List ℕ) → key_eq x y ≡ true → x ≡ y
unfolding key_eq
key_eq-exact x y h = pointwise-exact nat_eq nat_eq-exact x y h

pub key_eq-cases : (x y : List ℕ) → (key_eq x y ≡ false) ⊎ (x ≡ y)
key_eq-cases x y = fails_or_same (key_eq x y) (key_eq-exact x y)

-- ---- what an enum or a struct over the base types needs for its law `exact`

pub versions-cases : (xs ys : List ℕ) → (lists_same number_eq xs ys ≡ false) ⊎ (xs ≡ ys)
versions-cases xs ys = lists_same-cases number_eq number_eq-exact xs ys

pub keys-cases : (xs ys : List (List ℕ)) → (lists_same key_eq xs ys ≡ false) ⊎ (xs ≡ ys)
keys-cases xs ys = lists_same-cases key_eq key_eq-exact xs ys

pub ruleset exact_tests = (arith, common_steps, nat_eq-exact, number_eq-cases, amount_eq-cases, key_eq-cases, versions-cases, keys-cases)

-- ---- a key in its cells, and the fields of a version, from what contracts see

pub padded_len : (cells : List ℕ) (len : ℕ) → IsPadded cells len → length (take len cells) ≡ len
padded_len cells len h = length-take-le len cells (omega (arith, h.room, h.short))

pub padded_cells : (cells : List ℕ) (len : ℕ) → IsPadded cells len → take len cells ++ replicate (key_room - length (take len cells)) 0 ≡ cells
padded_cells cells len h = rw (padded_len cells len h, ← h.zeros) (take-append-drop len cells)

pub time_back : (time gate : ℕ) → IsInForm time gate → time_of (number time gate) ≡ time
time_back time gate h = div-mul-add time gate_limit gate h.small

pub gate_back : (time gate : ℕ) → IsInForm time gate → gate_of (number time gate) ≡ gate
gate_back time gate h = mod-mul-add time gate_limit gate h.small
