-- Keys, seen as their bytes: 1 to 32 letters, digits and `_`.
use Rattle.std.specs.Cmp.Lexicographic.{pointwise}
use Rattle.std.specs.List.{list_all, list_any}
use Rattle.std.specs.Prelude.{◌≡◌, ◌==◌, ℕ, ◌-◌, ◌<◌, ◌≤◌, Bool, true, false, ◌&&◌, ◌||◌, nat_eq, nat_le, nat_lt, List, [], ◌∷◌, length, take, drop, replicate, Option, Some, None, if◌then◌else◌}

-- the most bytes of a key
abbrev pub key_room : ℕ
key_room = 32

-- a letter, a digit or `_`
abbrev pub is_key_byte : ℕ → Bool
is_key_byte b = (nat_le 48 b && nat_le b 57) || ((nat_le 65 b && nat_le b 90) || ((b == 95) || (nat_le 97 b && nat_le b 122)))

abbrev pub all_key_bytes : List ℕ → Bool
all_key_bytes bytes = list_all is_key_byte bytes

-- The bytes are a key.
pub record IsKey (bytes : List ℕ) : Type 0 where
  pub some : 0 < length bytes
  pub short : length bytes ≤ key_room
  pub letters : all_key_bytes bytes ≡ true

-- the bytes, where they are a key
abbrev pub key_of : List ℕ → Option (List ℕ)
key_of bytes = if nat_lt 0 (length bytes) && (nat_le (length bytes) key_room && all_key_bytes bytes) then Some bytes else None

-- whether two keys are the same
unfoldable pub key_eq : List ℕ → List ℕ → Bool
key_eq x y = pointwise nat_eq x y

-- whether a key stands twice
abbrev pub repeats : List (List ℕ) → Bool
repeats [] = false
repeats (key ∷ keys) = list_any (key_eq key) keys || repeats keys

-- How a key lies in its cells: its bytes, and zeros behind them.
pub record IsPadded (cells : List ℕ) (len : ℕ) : Type 0 where
  pub room : length cells ≡ key_room
  pub some : 0 < len
  pub short : len ≤ key_room
  pub letters : all_key_bytes (take len cells) ≡ true
  pub zeros : drop len cells ≡ replicate (key_room - len) 0
