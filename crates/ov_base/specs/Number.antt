-- Whole numbers as words, and the test of numbers.
use Rattle.std.specs.Prelude.{◌≡◌, ◌≢◌, ◌==◌, ℕ, ◌+◌, ◌-◌, ◌*◌, ◌<◌, ◌≤◌, ◌^◌, Bool, ◌&&◌, nat_le, nat_lt, List, [], ◌∷◌, length, slice_index, Option, Some, None, if◌then◌else◌}
use Rattle.std.specs.Fmt.{decimal}
use Rattle.std.specs.Str.{bytes_eq}
use Rattle.std.specs.Str.Parse.{digits_value}
use Rattle.ov_base.specs.Word.{◌>>=◌}

-- the numbers that a `u64` holds
abbrev pub IsWord64 : ℕ → Type 0
IsWord64 n = n < 2 ^ 64

-- the number whose decimal spelling the bytes are
unfoldable pub number_of : List ℕ → Option ℕ
number_of bytes = let n = digits_value 10 bytes in if nat_lt n (2 ^ 64) && bytes_eq bytes (decimal n) then Some n else None

-- the numbers from the one to the other
abbrev pub IsWithin : ℕ → ℕ → ℕ → Type 0
IsWithin low high n = (low ≤ n) × (n ≤ high)

-- the number that the bytes spell, where it lies from the one number to the other
abbrev pub number_within : ℕ → ℕ → List ℕ → Option ℕ
number_within low high bytes = number_of bytes >>= λ n. if nat_le low n && nat_le n high then Some n else None

-- no sign and no leading zero
pub record IsPlain (bytes : List ℕ) : Type 0 where
  pub some : 0 < length bytes
  pub no_sign : slice_index bytes 0 ≢ 43
  pub zero : slice_index bytes 0 ≡ 48 → length bytes ≡ 1

-- the number with this digit behind it, where the byte is a digit and the number is one that a `u64` holds
abbrev pub with_digit : ℕ → ℕ → Option ℕ
with_digit n byte =
    if nat_le 48 byte && nat_le byte 57 then (if nat_lt (n * 10 + (byte - 48)) (2 ^ 64) then Some (n * 10 + (byte - 48)) else None)
    else None

-- the number with these digits behind it
abbrev pub value_after : ℕ → List ℕ → Option ℕ
value_after n [] = Some n
value_after n (byte ∷ bytes) = with_digit n byte >>= λ m. value_after m bytes

-- whether two numbers are the same
unfoldable pub number_eq : ℕ → ℕ → Bool
number_eq x y = x == y
