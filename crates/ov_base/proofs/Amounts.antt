-- An amount that is read is written so, and what is written is read again.
use Rattle.std.proofs.Common.{◌≡◌, ℕ, zero, suc, ℤ, pos, negsuc, ◌<◌, ◌≤◌, ◌^◌, ltb, leb, ◌&&◌, true, List, [], ◌∷◌, length, Some, refl, ap, subst, arith, inl, inr}
use Rattle.std.specs.Prelude.{slice_index}
use Rattle.std.specs.Fmt.{decimal}
use Rattle.std.specs.Str.Parse.{AllDigits}
use Rattle.std.proofs.lemmas.Bool.{lt-ltb, le-leb, leb-true, and_parts}
use Rattle.std.proofs.lemmas.Bool.Decides.{eqb_tells}
use Rattle.std.proofs.lemmas.Option.{cond_some}
use Rattle.std.proofs.lemmas.Fmt.{digits_decimal, decimal_nonempty}
use Rattle.std.proofs.lemmas.Str.Parse.{digit_from_value, numerals_by_value, tells_digits}
use Rattle.ov_base.specs.Word.{◌>>=◌}
use Rattle.ov_base.specs.Number.{number_of}
use Rattle.ov_base.specs.Split.{lacks}
use Rattle.ov_base.specs.Amount.{most, IsAmount, amount_text, amount_of, positive, negative}
use Rattle.ov_base.proofs.Numbers.{number_again, number_takes}
use Rattle.ov_base.proofs.Readers.{bind_some}
use Rattle.ov_base.proofs.Splits.{decimal_lacks}

-- digits are read as a number without a sign
unsigned : (bs : List ℕ) → AllDigits 10 bs → 0 < length bs → amount_of bs ≡ (number_of bs >>= positive)
unfolding amount_of
unsigned [] h some = absurd (omega arith)
unsigned (b ∷ bs) h some = elim (eqb_tells b 45) [ inl p ↦ absurd (omega (arith, digit_from_value b h.0)) | inr p ↦ rw p.0 refl ]

pub amount_again : (z : ℤ) → IsAmount z → amount_of (amount_text z) ≡ Some z
unfolding amount_of
amount_again (pos n) small =
    let fits : n < 2 ^ 64 = omega arith in
    rw (unsigned (decimal n) (digits_decimal (numerals_by_value (AllDigits 10) tells_digits) n fits) (decimal_nonempty n fits), number_again n fits, le-leb n most small) refl
amount_again (negsuc n) small = rw (number_again (suc n) (omega arith), lt-ltb 0 (suc n) (omega arith), le-leb (suc n) most (omega arith)) refl

negative_takes : (ds : List ℕ) (n : ℕ) (z : ℤ) → number_of ds ≡ Some n → negative n ≡ Some z → IsAmount z × (45 ∷ ds ≡ amount_text z)
negative_takes ds zero z read e = absurd cc
negative_takes ds (suc n) z read e =
    let q = cond_some (ltb 0 (suc n) && leb (suc n) most) (negsuc n) z e in
    let tests = and_parts (ltb 0 (suc n)) (leb (suc n) most) q.0 in
    let in_range : suc n ≤ most = leb-true (suc n) most tests.1 in
    subst (λ (y : ℤ). IsAmount y × (45 ∷ ds ≡ amount_text y)) q.1 (omega arith, ap (λ (t : List ℕ). 45 ∷ t) (number_takes ds (suc n) read).1)

positive_takes : (bs : List ℕ) (n : ℕ) (z : ℤ) → number_of bs ≡ Some n → positive n ≡ Some z → IsAmount z × (bs ≡ amount_text z)
positive_takes bs n z read e =
    let q = cond_some (leb n most) (pos n) z e in
    subst (λ (y : ℤ). IsAmount y × (bs ≡ amount_text y)) q.1 (leb-true n most q.0, (number_takes bs n read).1)

pub amount_takes : (bs : List ℕ) (z : ℤ) → amount_of bs ≡ Some z → IsAmount z × (bs ≡ amount_text z)
unfolding amount_of
amount_takes [] z e = absurd cc
amount_takes (b ∷ bs) z e =
    elim (eqb_tells b 45) [
      | inl p ↦ let h : (number_of bs >>= negative) ≡ Some z = rw p.0 at e in
          rw p.1 (bind_some (number_of bs) negative z h λ n read last. negative_takes bs n z read last)
      | inr p ↦ let h : (number_of (b ∷ bs) >>= positive) ≡ Some z = rw p.0 at e in
          bind_some (number_of (b ∷ bs)) positive z h λ n read last. positive_takes (b ∷ bs) n z read last
    ]

-- an amount lacks each byte below its sign and digits
pub amount_lacks : (b : ℕ) (z : ℤ) → b < 45 → IsAmount z → lacks b (amount_text z) ≡ true
amount_lacks b (pos n) low h = decimal_lacks b n (omega arith) (omega arith)
amount_lacks b (negsuc n) low h = elim (eqb_tells 45 b) [ inl e ↦ absurd (omega arith) | inr e ↦ rw e.0 (decimal_lacks b (suc n) (omega arith) (omega arith)) ]

-- no amount begins with a byte above the digits
pub amount_begins : (b : ℕ) (bytes : List ℕ) (z : ℤ) → 57 < b → IsAmount z → amount_text z ≡ b ∷ bytes → ⊥
amount_begins b bytes (pos n) high h e =
    let digits : AllDigits 10 (b ∷ bytes) = subst (AllDigits 10) e (digits_decimal (numerals_by_value (AllDigits 10) tells_digits) n (omega arith)) in
    omega (arith, digit_from_value b digits.0)
amount_begins b bytes (negsuc n) high h e = let first : ◌≡◌ {A = ℕ} 45 b = ap (λ (t : List ℕ). slice_index t 0) e in omega arith
