-- What reading digits gives on a text without a leading zero, in the words of a reader.
use Rattle.std.proofs.Common.{◌≡◌, ℕ, ◌+◌, ◌-◌, ◌*◌, ◌/◌, ◌%◌, ◌<◌, ◌≤◌, ◌^◌, List, [], ◌∷◌, length, Option, Some, None, refl, sym, ap, subst, ◌∙◌, arith, inl, inr, Bool, true, false, IsTrue, ◌↔◌, cond, ltb, leb, ◌&&◌}
use Rattle.std.specs.Fmt.{decimal, digits}
use Rattle.std.specs.Char.{digit_value}
use Rattle.std.specs.Int.{IsInRange}
use Rattle.std.specs.Str.Parse.{digits_value, digits_value_after, AllDigits}
use Rattle.std.proofs.lemmas.Bool.{cases_eq, lt-ltb, ltb-true, le-leb, leb-true, and_parts}
use Rattle.std.proofs.lemmas.Option.{cond_some}
use Rattle.std.proofs.lemmas.Slice.Eq.{bytes_eq-Decides}
use Rattle.std.specs.Str.{bytes_eq}
use Rattle.std.proofs.lemmas.Str.{digit_value_digit}
use Rattle.std.proofs.lemmas.Str.Parse.{IsNumeralModel, numerals_by_value, tells_digits, digit_at, digit_from_value}
use Rattle.std.proofs.lemmas.Fmt.{digits_decimal, digits_value-decimal, decimal-digits_value, decimal_nonempty, first_decimal, decimal_digit}
use Rattle.ov_base.specs.Word.{Reads}
use Rattle.ov_base.specs.Number.{IsWord64, IsWithin, IsPlain, number_of, number_within, value_after, with_digit}
use Rattle.ov_base.proofs.Readers.{bind_some}

own : IsNumeralModel (AllDigits 10) (digits_value 10)
own = numerals_by_value (AllDigits 10) tells_digits

after_ge : (n : ℕ) (bs : List ℕ) → n ≤ digits_value_after 10 n bs
after_ge n [] = omega arith
after_ge n (b ∷ bs) = omega (arith, after_ge (n * 10 + digit_value b) bs)

-- digits are read as their value
value_is : (n : ℕ) (bs : List ℕ) → AllDigits 10 bs → digits_value_after 10 n bs < 2 ^ 64 → value_after n bs ≡ Some (digits_value_after 10 n bs)
value_is n [] digits small = refl
value_is n (b ∷ bs) digits small =
    let range = digit_from_value b digits.0 in
    let same : n * 10 + digit_value b ≡ n * 10 + (b - 48) = omega (arith, digit_value_digit b range) in
    let rest = value_is (n * 10 + digit_value b) bs digits.1 small in
    let held : n * 10 + (b - 48) < 2 ^ 64 = omega (arith, same, small, after_ge (n * 10 + digit_value b) bs) in
    rw (le-leb 48 b range.0, le-leb b 57 range.1, lt-ltb (n * 10 + (b - 48)) (2 ^ 64) held)
    (subst (λ (k : ℕ). value_after k bs ≡ Some (digits_value_after 10 (n * 10 + digit_value b) bs)) same rest)

two_tests : {A : Type 0} (a b : Bool) (x y : A) → cond a (cond b (Some x) None) None ≡ Some y → (a ≡ true) × (b ≡ true) × (x ≡ y)
two_tests true true x y e = (refl, refl, cc)
two_tests true false x y e = absurd cc
two_tests false b x y e = absurd cc

-- what is read is digits, and their value
value_takes : (n m : ℕ) (bs : List ℕ) → n < 2 ^ 64 → value_after n bs ≡ Some m → AllDigits 10 bs × (digits_value_after 10 n bs ≡ m) × (m < 2 ^ 64)
value_takes n m [] small e = let same : n ≡ m = cc in (tt, same, subst (λ (k : ℕ). k < 2 ^ 64) same small)
value_takes n m (b ∷ bs) small e =
    bind_some (with_digit n b) _ m e λ k read rest.
    let digit = two_tests (leb 48 b && leb b 57) (ltb (n * 10 + (b - 48)) (2 ^ 64)) (n * 10 + (b - 48)) k read in
    let range = and_parts (leb 48 b) (leb b 57) digit.0 in
    let is : IsInRange 48 57 b = (leb-true 48 b range.0, leb-true b 57 range.1) in
    let same : n * 10 + digit_value b ≡ k = omega (arith, digit_value_digit b is, digit.2) in
    let more = value_takes k m bs (subst (λ (x : ℕ). x < 2 ^ 64) digit.2 (ltb-true (n * 10 + (b - 48)) (2 ^ 64) digit.1)) rest in
    ((omega (arith, digit_value_digit b is, is.1), more.0), ap (λ x. digits_value_after 10 x bs) same ∙ more.1, more.2)

-- what the digits give is what the bytes spell, where they have no leading zero
pub number_from_value : (bs : List ℕ) (r : Option ℕ) → IsPlain bs → r ≡ value_after 0 bs → Reads decimal IsWord64 bs r
number_from_value bs (Some n) plain e =
    let t = value_takes 0 n bs (omega arith) (sym e) in
    (t.2, sym (ap decimal (sym t.1) ∙ decimal-digits_value own bs t.0 plain.some plain.zero (subst (λ (m : ℕ). m < 2 ^ 64) (sym t.1) t.2)))
number_from_value bs None plain e = λ n small is.
    let read = value_is 0 bs (subst (AllDigits 10) (sym is) (digits_decimal own n small)) (subst (λ (m : ℕ). m < 2 ^ 64) (sym (ap (digits_value 10) is ∙ digits_value-decimal own n small)) small) in
    absurd cc

pub decimal_plain : (n : ℕ) → n < 2 ^ 64 → IsPlain (decimal n)
decimal_plain n small =
    let some : 0 < length (decimal n) = decimal_nonempty n small in
    let digit = digit_at (decimal n) 0 (digits_decimal own n small) some in
    record {
      some = some;
      no_sign = λ e. omega (arith, digit);
      zero = λ e. elim (cases_eq n 0) [
        | inl z ↦ rw z (ap length (decimal_digit 0 (omega arith)))
        | inr nz ↦ absurd (omega (arith, first_decimal n (omega arith) small))
      ];
    }

pub not_plain : (bs : List ℕ) (b : Bool) → (IsTrue b ↔ IsPlain bs) → b ≡ false → (n : ℕ) → n < 2 ^ 64 → bs ≡ decimal n → ⊥
not_plain bs b h e n small is = let t : IsTrue b = h.1 (subst IsPlain (sym is) (decimal_plain n small)) in absurd cc

pub plain_is : (bs : List ℕ) (b : Bool) → (IsTrue b ↔ IsPlain bs) → b ≡ true → IsPlain bs
plain_is bs b h e = h.0 e

pub number_again : (n : ℕ) → n < 2 ^ 64 → number_of (decimal n) ≡ Some n
unfolding number_of
number_again n small =
    let value : digits_value 10 (decimal n) ≡ n = digits_value-decimal own n small in
    let equal : bytes_eq (decimal n) (decimal n) ≡ true = (bytes_eq-Decides (decimal n) (decimal n)).1 refl in
    rw (value, lt-ltb n (2 ^ 64) small, equal) refl

number_from_tests : (bs : List ℕ) (n m : ℕ) (a b : Bool) → (a ≡ true → n < 2 ^ 64) → (b ≡ true → bs ≡ decimal n) → cond (a && b) (Some n) None ≡ Some m → (m < 2 ^ 64) × (bs ≡ decimal m)
number_from_tests bs n m true true f g e = let p : n ≡ m = cc in (subst (λ (k : ℕ). k < 2 ^ 64) p (f refl), g refl ∙ ap decimal p)
number_from_tests bs n m true false f g e = absurd cc
number_from_tests bs n m false b f g e = absurd cc

pub number_takes : (bs : List ℕ) (n : ℕ) → number_of bs ≡ Some n → (n < 2 ^ 64) × (bs ≡ decimal n)
unfolding number_of
number_takes bs n e = number_from_tests bs (digits_value 10 bs) n (ltb (digits_value 10 bs) (2 ^ 64)) (bytes_eq bs (decimal (digits_value 10 bs)))
    (λ t. ltb-true (digits_value 10 bs) (2 ^ 64) t) (bytes_eq-Decides bs (decimal (digits_value 10 bs))).0 e

none_is : {A : Type 0} (bs : List ℕ) (r : Option A) → ((v : A) → r ≡ Some v → ⊥) → None ≡ r
none_is bs None h = refl
none_is bs (Some v) h = absurd (h v refl)

-- what a reader returns is what reading gives
pub number_is : (bs : List ℕ) (r : Option ℕ) → Reads decimal IsWord64 bs r → r ≡ number_of bs
number_is bs (Some n) h = sym (ap number_of h.1 ∙ number_again n h.0)
number_is bs None h = none_is bs (number_of bs) (λ n e. let t = number_takes bs n e in h n t.0 t.1)

-- ---- numbers in a range

-- a number in the range is read as itself
pub within_again : (low high : ℕ) → high < 2 ^ 64 → (n : ℕ) → IsWithin low high n → number_within low high (decimal n) ≡ Some n
within_again low high held n h = rw (number_again n (omega (arith, h.1, held)), le-leb low n h.0, le-leb n high h.1) refl

-- a number that is read lies in the range, and its bytes are its digits
pub within_takes : (low high : ℕ) (bs : List ℕ) (n : ℕ) → number_within low high bs ≡ Some n → IsWithin low high n × (bs ≡ decimal n)
within_takes low high bs n e =
    bind_some (number_of bs) _ n e λ m read rest.
    let q = cond_some (leb low m && leb m high) m n rest in
    let tests = and_parts (leb low m) (leb m high) q.0 in
    let spelled = number_takes bs m read in
    subst (λ (k : ℕ). IsWithin low high k × (bs ≡ decimal k)) q.1 ((leb-true low m tests.0, leb-true m high tests.1), spelled.1)

-- a number below 10 is written as one digit
pub digit_decimal : (n : ℕ) → n < 10 → decimal n ≡ (48 + n) ∷ []
unfolding digits
digit_decimal n less =
    let none : n / 10 ≡ 0 = omega (arith, less) in
    let same : n % 10 ≡ n = omega (arith, less) in
    rw (none, same, lt-ltb n 10 less) refl
