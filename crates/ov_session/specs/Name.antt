-- The names of sessions: 1 to 16 lower-case letters and digits, the first a letter, and not `session`.
use Rattle.std.specs.Prelude.{◌≡◌, ℕ, ◌<◌, ◌≤◌, Bool, true, false, not, ◌&&◌, ◌||◌, nat_le, nat_lt, List, length, slice_index, Option, Some, None, if◌then◌else◌, codes}
use Rattle.std.specs.List.{list_all}
use Rattle.std.specs.Str.{bytes_eq}

-- the most bytes of a name
abbrev pub name_room : ℕ
name_room = 16

-- a lower-case letter
abbrev pub is_letter : ℕ → Bool
is_letter b = nat_le 97 b && nat_le b 122

-- a lower-case letter or a digit
abbrev pub is_name_byte : ℕ → Bool
is_name_byte b = (nat_le 48 b && nat_le b 57) || is_letter b

abbrev pub all_name_bytes : List ℕ → Bool
all_name_bytes bytes = list_all is_name_byte bytes

-- The bytes are the name of a session.
pub record IsName (bytes : List ℕ) : Type 0 where
  pub some : 0 < length bytes
  pub short : length bytes ≤ name_room
  pub bytes_fit : all_name_bytes bytes ≡ true
  pub first : is_letter (slice_index bytes 0) ≡ true
  pub other : bytes_eq bytes (codes "session") ≡ false

-- whether the bytes are a name
abbrev pub is_name : List ℕ → Bool
is_name bytes = nat_lt 0 (length bytes) && (nat_le (length bytes) name_room && (all_name_bytes bytes && (is_letter (slice_index bytes 0) && not (bytes_eq bytes (codes "session")))))

-- the bytes, where they are a name
unfoldable pub name_of : List ℕ → Option (List ℕ)
name_of bytes = if is_name bytes then Some bytes else None
