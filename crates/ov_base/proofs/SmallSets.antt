-- What is in a small set.
use Rattle.std.proofs.Common.{◌≡◌, ◌≢◌, ℕ, ◌<◌, ◌==◌, ◌||◌, Bool, true, false, refl, sym, inl, inr}
use Rattle.std.proofs.Common.{w64}
use Rattle.std.proofs.lemmas.Bool.Decides.{eqb_tells}
use Rattle.std.proofs.lemmas.Nat.Bits.{bit_at-zero, bit_at_set_same, bit_at_set_other}
use Rattle.ov_base.specs.Small.{empty_set, has, with_number}
use Rattle.ov_base.specs.declared.small.SmallSet.{SmallSet}

-- nothing is in the empty set
pub empty_has : (j : ℕ) → has empty_set j ≡ false
empty_has j = rw (bit_at-zero j) refl

-- the number that was put in is there
pub with_has : (i : ℕ) (s : SmallSet) → i < 64 → has (with_number i s) i ≡ true
with_has i s small = rw (bit_at_set_same w64 s.mask i small) refl

-- another number is there where it was
pub with_others : (i j : ℕ) (s : SmallSet) → i < 64 → j ≢ i → has (with_number i s) j ≡ has s j
with_others i j s small other = rw (bit_at_set_other w64 s.mask i small j other) refl

-- a number is in the set with one more where it was there or is that one
pub with_either : (i j : ℕ) (s : SmallSet) → i < 64 → has (with_number i s) j ≡ (has s j || (i == j))
with_either i j s small =
    elim (eqb_tells i j) [
      | inl same ↦ rw (same.0, ← same.1, with_has i s small) (or_true (has s i))
      | inr other ↦ rw (other.0, with_others i j s small (λ same. other.1 (sym same))) (or_false (has s j))
    ]
  where
    or_true : (b : Bool) → true ≡ (b || true)
    or_true true = refl
    or_true false = refl

    or_false : (b : Bool) → b ≡ (b || false)
    or_false true = refl
    or_false false = refl
