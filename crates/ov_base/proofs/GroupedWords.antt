-- The words of the base types can stand in the groups of a line.
use Rattle.std.proofs.Common.{◌≡◌, ℕ, ℤ, ◌<◌, ◌^◌, true, List, [], ◌∷◌, Option, Some, None, refl, subst, codes, inl, inr, arith}
use Rattle.std.specs.Fmt.{decimal}
use Rattle.std.specs.Str.Parse.{AllDigits}
use Rattle.std.proofs.lemmas.Bool.{cases_Bool}
use Rattle.std.proofs.lemmas.Fmt.{digits_decimal}
use Rattle.std.proofs.lemmas.Str.Parse.{digit_from_value, numerals_by_value, tells_digits}
use Rattle.ov_base.specs.Amount.{IsAmount, amount_text}
use Rattle.ov_base.specs.Groups.{is_separator}
use Rattle.ov_base.specs.Key.{IsKey, key_of}
use Rattle.ov_base.specs.Split.{lacks}
use Rattle.ov_base.specs.Value.{IsValue, value_text}
use Rattle.ov_base.specs.Version.{IsVersion, time_of, gate_of, version_text, version_of}
use Rattle.ov_base.specs.declared.value.Value.{Value}
use Rattle.ov_base.specs.declared.value.Value.TheVariants.{Absent, Number}
use Rattle.ov_base.proofs.Amounts.{amount_begins, amount_lacks}
use Rattle.ov_base.proofs.GroupTexts.{IsGrouped}
use Rattle.ov_base.proofs.Keys.{key_again, key_lacks}
use Rattle.ov_base.proofs.Readers.{word_is, words_differ}
use Rattle.ov_base.proofs.Splits.{decimal_lacks, lacks_appended}
use Rattle.ov_base.proofs.Versions.{version_again}

-- a word that a reader takes, which does not take `;`
pub read_grouped : {A : Type 0} (f : List ℕ → Option A) (word : List ℕ) (v : A) → f word ≡ Some v → f (codes ";") ≡ None → lacks 32 word ≡ true → lacks 10 word ≡ true → IsGrouped word
read_grouped f word v read none space line = record { space = space; line = line; apart = words_differ f word (codes ";") v read none }

-- a word that is not `;`
pub other_grouped : (word : List ℕ) → (word ≡ codes ";" → ⊥) → lacks 32 word ≡ true → lacks 10 word ≡ true → IsGrouped word
other_grouped word other space line = record {
  space = space;
  line = line;
  apart = elim (cases_Bool (is_separator word)) [ inl same ↦ absurd (other (word_is word (codes ";") same)) | inr apart ↦ apart ];
}

pub key_grouped : (key : List ℕ) → IsKey key → IsGrouped key
key_grouped key h = read_grouped key_of key key (key_again key h) refl (key_lacks 32 key refl h) (key_lacks 10 key refl h)

number_apart : (n : ℕ) → n < 2 ^ 64 → decimal n ≡ codes ";" → ⊥
number_apart n small e =
    let digits : AllDigits 10 (codes ";") = subst (AllDigits 10) e (digits_decimal (numerals_by_value (AllDigits 10) tells_digits) n small) in
    omega (arith, digit_from_value 59 digits.0)

pub number_grouped : (n : ℕ) → n < 2 ^ 64 → IsGrouped (decimal n)
number_grouped n small = other_grouped (decimal n) (number_apart n small) (decimal_lacks 32 n (omega arith) small) (decimal_lacks 10 n (omega arith) small)

pub amount_grouped : (amount : ℤ) → IsAmount amount → IsGrouped (amount_text amount)
amount_grouped amount h =
    other_grouped (amount_text amount) (amount_begins 59 [] amount (omega arith) h) (amount_lacks 32 amount (omega arith) h) (amount_lacks 10 amount (omega arith) h)

pub value_grouped : (value : Value) → IsValue value → IsGrouped (value_text value)
value_grouped Absent h = record { space = refl; line = refl; apart = refl }
value_grouped (Number amount) h = amount_grouped amount h

version_lacks : (b n : ℕ) → b < 46 → lacks b (46 ∷ decimal (gate_of n)) ≡ true → IsVersion n → lacks b (version_text n) ≡ true
version_lacks b n low behind h = lacks_appended b (decimal (time_of n)) (46 ∷ decimal (gate_of n)) (decimal_lacks b (time_of n) (omega arith) (omega arith)) behind

pub version_grouped : (n : ℕ) → IsVersion n → IsGrouped (version_text n)
unfolding version_of
version_grouped n h =
    read_grouped version_of (version_text n) n (version_again n h) refl
    (version_lacks 32 n (omega arith) (decimal_lacks 32 (gate_of n) (omega arith) (omega arith)) h)
    (version_lacks 10 n (omega arith) (decimal_lacks 10 (gate_of n) (omega arith) (omega arith)) h)
