-- Seats put together, and the values that are shown at the end.
use Rattle.std.proofs.Common.{◌≡◌, ℕ, zero, suc, ◌+◌, ◌<◌, ◌||◌, true, false, Bool, if◌then◌else◌, List, [], ◌∷◌, ◌++◌, map, length, get_or, take, ◌*◌, ◌≤◌, Option, Some, None, inl, inr, sym, refl, ap, ◌∙◌, subst, arith}
use Rattle.std.proofs.lemmas.Bool.{cases_Bool}
use Rattle.std.proofs.lemmas.List.{take_all, take_more}
use Rattle.std.specs.List.{AllByRecursion}
use mathlib.Core.Option.{some, some-ne-none, some-injective}
use lib.ListN.{get_elem?}
use Rattle.ov_base.specs.Amount.{most}
use Rattle.ov_base.specs.Value.{IsValue}
use Rattle.ov_base.specs.declared.value.Value.{Value}
use Rattle.ov_window.specs.Evaluation.{values_of}
use Rattle.ov_window.specs.declared.plan.Task.{Task}
use Rattle.ov_cells.specs.Codes.{code}
use Rattle.ov_cells.specs.Rules.{has, all_parts, value_among, IsCodeOf, IsKept}
use Rattle.ov_cells.specs.declared.rule.View.{View}
use Rattle.ov_cells.proofs.Codes.{code_most}
use Rattle.ov_cells.proofs.Kept.{closes}
use Rattle.ov_cells.specs.Seats.{SeenSeat, parts_of, known_by, shown_from, shown_by}
use Rattle.ov_cells.proofs.Values.{values_long}

-- ---- seats

or_assoc : (a b c : Bool) → (a || (b || c)) ≡ ((a || b) || c)
or_assoc true b c = refl
or_assoc false b c = refl

or_false : (b : Bool) → (b || false) ≡ b
or_false true = refl
or_false false = refl

pub parts_snoc : (seats : List SeenSeat) (seat : SeenSeat) → parts_of (seats ++ seat ∷ []) ≡ parts_of seats + seat.parts
parts_snoc [] seat = omega arith
parts_snoc (one ∷ seats) seat = let rest = parts_snoc seats seat in omega arith

pub known_snoc : (seats : List SeenSeat) (seat : SeenSeat) (place : ℕ) → known_by (seats ++ seat ∷ []) place ≡ (known_by seats place || has seat.known place)
known_snoc [] seat place = or_false (has seat.known place)
known_snoc (one ∷ seats) seat place = ap (λ b. has one.known place || b) (known_snoc seats seat place) ∙ or_assoc (has one.known place) (known_by seats place) (has seat.known place)

-- a seat that takes in the last of others
or_moved : (a b c : Bool) → (a || (b || c)) ≡ ((a || c) || b)
or_moved true b c = refl
or_moved false true true = refl
or_moved false true false = refl
or_moved false false true = refl
or_moved false false false = refl

pub last_taken : (others : List SeenSeat) (other : SeenSeat) (known later : List ℕ) (place : ℕ) → has later place ≡ (has known place || has other.known place)
    → (known_by others place || has later place) ≡ (known_by (others ++ other ∷ []) place || has known place)
last_taken others other known later place is =
    ap (λ b. known_by others place || b) is
    ∙ or_moved (known_by others place) (has known place) (has other.known place)
    ∙ ap (λ b. b || has known place) (sym (known_snoc others other place))

pub all_snoc : {A : Type 0} (P : A → Type 0) (items : List A) (item : A) → AllByRecursion P (items ++ item ∷ []) → AllByRecursion P items × P item
all_snoc P [] item h = (tt, h.0)
all_snoc P (one ∷ items) item h = let rest = all_snoc P items item h.1 in ((h.0, rest.0), rest.1)

-- ---- values

pub shown_long : (known : ℕ → Bool) (from : ℕ) (values : List Value) → length (shown_from known from values) ≡ length values
shown_long known from [] = refl
shown_long known from (value ∷ values) = ap suc (shown_long known (from + 1) values)

-- what is shown at a place
pub shown_at : (known : ℕ → Bool) (from : ℕ) (values : List Value) (place : ℕ) → place < length values
    → get_or (shown_from known from values) place None ≡ (if known (from + place) then Some (value_among values place) else None)
shown_at known from [] place less = absurd (omega arith)
shown_at known from (value ∷ values) zero less = let e : from + 0 ≡ from = omega arith in ap (λ (p : ℕ). if known p then Some value else None) (sym e)
shown_at known from (value ∷ values) (suc place) less =
    let e : (from + 1) + place ≡ from + suc place = omega arith in
    shown_at known (from + 1) values place (omega arith) ∙ ap (λ (p : ℕ). if known p then Some (value_among values place) else None) e

-- what is known alike is shown alike
pub shown_alike : (known other : ℕ → Bool) → ((place : ℕ) → known place ≡ other place) → (from : ℕ) (values : List Value) → shown_from known from values ≡ shown_from other from values
shown_alike known other same from [] = refl
shown_alike known other same from (value ∷ values) =
    let here : (if known from then Some value else None) ≡ (if other from then Some value else None) = ap (λ b. if b then Some value else None) (same from) in
    let rest = shown_alike known other same (from + 1) values in λ i. here i ∷ rest i

-- where all is known, all is shown
shown_all : (known : ℕ → Bool) (from : ℕ) (values : List Value) → ((place : ℕ) → place < length values → known (from + place) ≡ true) → shown_from known from values ≡ map Some values
shown_all known from [] all = refl
shown_all known from (value ∷ values) all =
    let e : from + 0 ≡ from = omega arith in
    let here : known from ≡ true = subst (λ (p : ℕ). known p ≡ true) e (all 0 (omega arith)) in
    let rest = shown_all known (from + 1) values (λ place less. let f : from + suc place ≡ (from + 1) + place = omega arith in subst (λ (p : ℕ). known p ≡ true) f (all (suc place) (omega arith))) in
    rw here (ap (λ t. Some value ∷ t) rest)

pub all_shown : (seats : List SeenSeat) (tasks : List Task) → ((place : ℕ) → place < length tasks → known_by seats place ≡ true) → shown_by seats tasks ≡ map Some (values_of tasks)
all_shown seats tasks all = shown_all (known_by seats) 0 (values_of tasks) (λ place less. let long = values_long [] tasks in let e : place ≡ 0 + place = omega arith in
    subst (λ (p : ℕ). known_by seats p ≡ true) e (all place (omega arith)))

-- ---- the words at the end

elem_or : (words : List ℕ) (at found : ℕ) → get_elem? words at ≡ some found → get_or words at 0 ≡ found
elem_or [] at found e = absurd (some-ne-none found (sym e))
elem_or (word ∷ words) zero found e = some-injective word found e
elem_or (word ∷ words) (suc at) found e = elem_or words at found e

module _ (values : List Value) (words : List ℕ) (views : List View) (id : ℕ) (v : View) (kept : IsKept values words views) (at : get_elem? views id ≡ some v) (all : v.parts ≡ all_parts)
    (place found : ℕ) (there : get_elem? words (place + 1) ≡ some found) where
  -- the word of a known place has its code
  found_known : has v.known place ≡ true → IsCodeOf found (value_among values place)
  found_known known = subst (λ (w : ℕ). IsCodeOf w (value_among values place)) (elem_or words (place + 1) found there) ((closes values words views id v place kept at all).0 known)

  -- another word is 0
  found_none : has v.known place ≡ false → found ≡ 0
  found_none isnt = sym (elem_or words (place + 1) found there) ∙ (closes values words views id v place kept at all).1 (λ h. cc (h, isnt))

  pub found_most : found ≤ 2 * most + 2
  found_most = elim (cases_Bool (has v.known place)) [
    | inl known ↦ code_most found (value_among values place) (found_known known)
    | inr isnt ↦ let none = found_none isnt in omega arith
  ]

  -- the value of the word is shown
  pub found_shown : (result : Option Value) → (found ≡ 0 → result ≡ None) → ((value : Value) → IsValue value → found ≡ code value → result ≡ Some value)
      → result ≡ (if has v.known place then Some (value_among values place) else None)
  found_shown result empty some_value = elim (cases_Bool (has v.known place)) [
    | inl known ↦ let is = found_known known in rw known (some_value (value_among values place) is.0 is.1)
    | inr isnt ↦ rw isnt (empty (found_none isnt))
  ]

-- one more value is shown
pub shown_more : (known : ℕ → Bool) (values : List Value) (place : ℕ) (shown : List (Option Value)) (one : Option Value) → place < length values
    → shown ≡ take place (shown_from known 0 values) → one ≡ (if known place then Some (value_among values place) else None)
    → shown ++ one ∷ [] ≡ take (place + 1) (shown_from known 0 values)
shown_more known values place shown one less before is =
    let long = shown_long known 0 values in
    let e : 0 + place ≡ place = omega arith in
    let here : one ≡ get_or (shown_from known 0 values) place None =
    is ∙ ap (λ (p : ℕ). if known p then Some (value_among values place) else None) (sym e) ∙ sym (shown_at known 0 values place less) in
    (λ i. before i ++ here i ∷ []) ∙ sym (take_more (shown_from known 0 values) place None (omega arith))

-- in the end all are shown
pub shown_whole : (known : ℕ → Bool) (values : List Value) (count : ℕ) → length values ≤ count → take count (shown_from known 0 values) ≡ shown_from known 0 values
shown_whole known values count le = let long = shown_long known 0 values in take_all count (shown_from known 0 values) (omega arith)
