-- The words of places: the number of an entry, a space, and the number of one of its letters.
use Rattle.std.specs.Prelude.{ℕ, ◌-◌, ◌<◌, ◌≤◌, ◌^◌, ◌&&◌, nat_le, nat_lt, List, [], ◌∷◌, ◌++◌, Option, Some, None, if◌then◌else◌}
use Rattle.std.specs.Fmt.{decimal}
use Rattle.ov_base.specs.Word.{◌>>=◌}
use Rattle.ov_base.specs.Number.{number_of}
use Rattle.ov_base.specs.Split.{cut_at}
use Rattle.ov_topology.specs.declared.place.Place.{Place}

-- The places that have a word.
pub record IsPlace (place : Place) : Type 0 where
  pub entry : 1 ≤ place.entry
  pub held : place.entry < 2 ^ 64
  pub letter : 1 ≤ place.letter
  pub digit : place.letter ≤ 9

-- the one spelling
abbrev pub place_text : Place → List ℕ
place_text place = decimal place.entry ++ 32 ∷ decimal place.letter

-- a digit from 1 to 9
unfoldable pub letter_of : List ℕ → Option ℕ
letter_of [] = None
letter_of (digit ∷ []) = if nat_le 49 digit && nat_le digit 57 then Some (digit - 48) else None
letter_of (digit ∷ more ∷ bytes) = None

-- reading the two words of a place
abbrev pub place_at : List ℕ → List ℕ → Option Place
place_at number digit = do
  entry ← number_of number
  letter ← letter_of digit
  if nat_lt 0 entry then Some (record { entry = entry; letter = letter }) else None

-- reading a place
unfoldable pub place_of : List ℕ → Option Place
place_of bytes = cut_at 32 bytes >>= λ words. place_at words.0 words.1
