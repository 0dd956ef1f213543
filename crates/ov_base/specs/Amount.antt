-- Amounts, seen as whole numbers, and their words.
use Rattle.std.specs.Prelude.{ℕ, ℤ, pos, negsuc, ◌+ℤ◌, ◌-ℤ◌, int_lt, int_le, ◌<◌, ◌≤◌, ◌&&◌, Bool, nat_lt, nat_le, ◌==◌, List, [], ◌∷◌, Option, Some, None, if◌then◌else◌}
use Rattle.std.specs.Fmt.{signed_decimal}
use Rattle.std.specs.Ordering.{int_eq}
use lib.IntN.{neg_ℤ}
use Rattle.ov_base.specs.Word.{◌>>=◌}
use Rattle.ov_base.specs.Number.{number_of}

-- the greatest amount
abbrev pub most : ℕ
most = 1000000000000000000

-- a whole number from -most to most
abbrev pub IsAmount : ℤ → Type 0
IsAmount (pos n) = n ≤ most
IsAmount (negsuc n) = n < most

-- the nearest amount
abbrev pub bounded : ℤ → ℤ
bounded z = if int_lt z (neg_ℤ (pos most)) then neg_ℤ (pos most) else (if int_lt (pos most) z then pos most else z)

-- the sum, which stops at both ends of the range
abbrev pub sum_of : ℤ → ℤ → ℤ
sum_of x y = bounded (x +ℤ y)

-- the difference, which stops at both ends of the range
abbrev pub difference_of : ℤ → ℤ → ℤ
difference_of x y = bounded (x -ℤ y)

-- the lesser of two
abbrev pub least_of : ℤ → ℤ → ℤ
least_of x y = if int_lt x y then x else y

-- the greater of two
abbrev pub greatest_of : ℤ → ℤ → ℤ
greatest_of x y = if int_lt x y then y else x

-- whether the plain sum is at most the greatest amount
abbrev pub fits_in : ℤ → ℤ → Bool
fits_in x y = int_le (x +ℤ y) (pos most)

-- the one spelling: the number, with `-` before a negative one
abbrev pub amount_text : ℤ → List ℕ
amount_text z = signed_decimal z

abbrev pub positive : ℕ → Option ℤ
positive n = if nat_le n most then Some (pos n) else None

abbrev pub negative : ℕ → Option ℤ
negative n = if nat_lt 0 n && nat_le n most then Some (neg_ℤ (pos n)) else None

-- reading a number, or `-` and a number other than 0
unfoldable pub amount_of : List ℕ → Option ℤ
amount_of [] = None
amount_of (b ∷ bytes) = if b == 45 then (number_of bytes >>= negative) else (number_of (b ∷ bytes) >>= positive)

-- whether two amounts are the same
unfoldable pub amount_eq : ℤ → ℤ → Bool
amount_eq x y = int_eq x y
