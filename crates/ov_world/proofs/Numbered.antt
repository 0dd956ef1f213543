-- Entries by their numbers: in the order in which they came, and in the history, where the newest comes first.
use Rattle.std.proofs.Common.{◌≡◌, ◌≢◌, ℕ, zero, suc, ◌+◌, ◌<◌, Option, Some, None, List, [], ◌∷◌, ◌++◌, length, get_or, Bor, refl, sym, ap, ◌∙◌, arith, inl, inr}
use Rattle.std.specs.Prelude.{reverse, slice_get, is_some, nat_lt, IfSome}
use Rattle.std.specs.Option.{option_map}
use Rattle.std.proofs.lemmas.Bool.{ltb-true, ltb-false}
use Rattle.std.proofs.lemmas.Option.{slice_get_past, slice_get_read}
use Rattle.std.proofs.lemmas.Bool.Decides.{eqb_tells}
use Rattle.std.proofs.lemmas.List.{length-reverse, reverse-reverse, reverse-append}
use Rattle.ov_base.proofs.Lists.{get_next}
use Rattle.ov_event.specs.declared.entry.Entry.{Entry}
use Rattle.ov_event.specs.declared.letter.Letter.{Letter}
use Rattle.ov_topology.specs.Shape.{Shape}
use Rattle.ov_topology.specs.declared.place.Place.{Place}
use Rattle.ov_world.specs.Delivered.{IsKept}
use Rattle.ov_world.specs.declared.delivered.Delivered.{Delivered}
use Rattle.ov_history.specs.Letters.{letter}
use Rattle.ov_history.specs.Past.{History, at}

-- an element that is not the last
pub get_other : {X : Type 0} (xs : List X) (x : X) (k : ℕ) → k ≢ length xs → slice_get (xs ++ x ∷ []) k ≡ slice_get xs k
get_other [] x zero other = absurd (other refl)
get_other [] x (suc k) other = refl
get_other (first ∷ xs) x zero other = refl
get_other (first ∷ xs) x (suc k) other = get_other xs x k (λ same. other (ap suc same))

-- an entry of a history, by its number
at_back : (h : History) (k : ℕ) → at h (k + 1) ≡ slice_get (reverse h) k
at_back [] k = refl
at_back (e ∷ h) k =
    let last : reverse (e ∷ h) ≡ reverse h ++ e ∷ [] = reverse-append (e ∷ []) h in
    elim (eqb_tells (k + 1) (length h + 1)) [
      | inl same ↦
          let there : k ≡ length (reverse h) = omega (arith, same.1, length-reverse h) in
          rw (same.0, last, there) (sym (get_next (reverse h) e))
      | inr other ↦ rw (other.0, last, get_other (reverse h) e k (λ same. other.1 (omega (arith, same, length-reverse h)))) (at_back h k)
    ]

-- the entry of a number is the one at its place in the order in which they came
pub at_place : (entries : List Entry) (k : ℕ) → at (reverse entries) (k + 1) ≡ slice_get entries k
at_place entries k = at_back (reverse entries) k ∙ ap (λ (list : List Entry). slice_get list k) (reverse-reverse entries)

-- there is no entry of number 0
pub at_zero : (h : History) → at h 0 ≡ None
at_zero [] = refl
at_zero (e ∷ h) =
    elim (eqb_tells 0 (length h + 1)) [
      | inl same ↦ absurd (omega (arith, same.1))
      | inr other ↦ rw other.0 (at_zero h)
    ]

-- one more entry is the newest
pub reverse_more : (entries : List Entry) (e : Entry) → reverse (entries ++ e ∷ []) ≡ e ∷ reverse entries
reverse_more entries e = reverse-append entries (e ∷ [])

-- what a lookup finds is what stands there
pub found_is : {X : Type 0} (found : Option (Bor X)) (xs : List X) (k : ℕ) → is_some found ≡ nat_lt k (length xs) → IfSome found (λ x. x.now ≡ get_or xs k x.now) → option_map (λ x. x.now) found ≡ slice_get xs k
found_is None xs k is same = sym (slice_get_past xs k (ltb-false k (length xs) (sym is)))
found_is (Some x) xs k is same = sym (slice_get_read xs (length xs) k x.now refl (ltb-true k (length xs) (sym is)) same)

-- ---- letters by their places

-- one more entry leaves the letter at a place
letter_by_place : (t : Shape) (h : History) (e : Entry) (place : Place) (sent : Letter) → letter t h place ≡ Some sent → letter t (e ∷ h) place ≡ Some sent
letter_by_place t h e place sent there =
    elim (eqb_tells place.entry (length h + 1)) [
      | inl same ↦ absurd (none_there h place sent same.1 there)
      | inr other ↦ rw other.0 there
    ]
  where
    past : (g : History) (n : ℕ) → length g < n → at g n ≡ None
    past [] n less = refl
    past (first ∷ g) n less =
        elim (eqb_tells n (length g + 1)) [
          | inl same ↦ absurd (omega (arith, same.1))
          | inr other ↦ rw other.0 (past g n (omega arith))
        ]

    none_there : (g : History) (p : Place) (l : Letter) → p.entry ≡ length g + 1 → letter t g p ≡ Some l → ⊥
    none_there g p l is there = let none = past g p.entry (omega (arith, is)) in let bad : None ≡ Some l = rw none at there in absurd (cc)

-- one more entry leaves the letter that is kept
pub letter_stays : (t : Shape) (h : History) (e : Entry) (last : Option Delivered) → IsKept t h last → IsKept t (e ∷ h) last
letter_stays t h e None kept = tt
letter_stays t h e (Some one) kept = letter_by_place t h e one.place one.letter kept
