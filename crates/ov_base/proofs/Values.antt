-- A value that is read is written so, and what is written is read again.
use Rattle.std.proofs.Common.{◌≡◌, ℕ, ℤ, pos, negsuc, List, Option, Some, refl, ap, subst, codes, inl, inr, arith}
use Rattle.std.specs.Prelude.{slice_index}
use Rattle.std.specs.Fmt.{decimal}
use Rattle.std.specs.Str.Parse.{AllDigits}
use Rattle.std.proofs.lemmas.Fmt.{digits_decimal}
use Rattle.std.proofs.lemmas.Str.Parse.{digit_from_value, numerals_by_value, tells_digits}
use Rattle.std.specs.Str.{bytes_eq}
use Rattle.std.proofs.lemmas.Bool.{cases_Bool}
use Rattle.std.proofs.lemmas.Slice.Eq.{bytes_eq-Decides}
use Rattle.ov_base.specs.declared.value.Value.{Value}
use Rattle.ov_base.specs.declared.value.Value.TheVariants.{Absent, Number}
use Rattle.ov_base.specs.Amount.{IsAmount, amount_text, amount_of}
use Rattle.ov_base.specs.Value.{IsValue, value_text, number_value, value_of}
use Rattle.ov_base.proofs.Readers.{bind_some}
use Rattle.ov_base.proofs.Amounts.{amount_again, amount_takes}

-- the word of the absent value spells no amount
other_word : (z : ℤ) → IsAmount z → amount_text z ≡ codes "absent" → ⊥
other_word (pos n) h e =
    let digits : AllDigits 10 (decimal n) = digits_decimal (numerals_by_value (AllDigits 10) tells_digits) n (omega arith) in
    let letters : AllDigits 10 (codes "absent") = subst (AllDigits 10) e digits in
    omega (arith, digit_from_value 97 letters.0)
other_word (negsuc n) h e = let first : ◌≡◌ {A = ℕ} 45 97 = ap (λ (bytes : List ℕ). slice_index bytes 0) e in omega arith

pub value_again : (v : Value) → IsValue v → value_of (value_text v) ≡ Some v
unfolding value_of
value_again Absent h = refl
value_again (Number z) h =
    elim (cases_Bool (bytes_eq (amount_text z) (codes "absent"))) [
      | inl same ↦ absurd (other_word z h ((bytes_eq-Decides (amount_text z) (codes "absent")).0 same))
      | inr other ↦ rw (other, amount_again z h) refl
    ]

number_takes : (bs : List ℕ) (v : Value) → number_value bs ≡ Some v → IsValue v × (bs ≡ value_text v)
number_takes bs v e =
    bind_some (amount_of bs) _ v e λ z read last.
    let q : ◌≡◌ {A = Value} (Number z) v = cc in
    subst (λ (w : Value). IsValue w × (bs ≡ value_text w)) q (amount_takes bs z read)

pub value_takes : (bs : List ℕ) (v : Value) → value_of bs ≡ Some v → IsValue v × (bs ≡ value_text v)
unfolding value_of
value_takes bs v e =
    elim (cases_Bool (bytes_eq bs (codes "absent"))) [
      | inl same ↦ let q : ◌≡◌ {A = Option Value} (Some Absent) (Some v) = rw same at e in
          let w : ◌≡◌ {A = Value} Absent v = cc in
          subst (λ (u : Value). IsValue u × (bs ≡ value_text u)) w (tt, (bytes_eq-Decides bs (codes "absent")).0 same)
      | inr other ↦ number_takes bs v (rw other at e)
    ]
