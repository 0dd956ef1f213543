-- Versions, seen as their numbers, and their words. Marks and watermarks are such numbers and are written in the same way.
use Rattle.std.specs.Prelude.{ℕ, ◌+◌, ◌*◌, ◌/◌, ◌%◌, ◌<◌, ◌^◌, ◌&&◌, nat_lt, List, ◌∷◌, ◌++◌, Option, Some, None, if◌then◌else◌}
use Rattle.std.specs.Fmt.{decimal}
use Rattle.ov_base.specs.Word.{◌>>=◌}
use Rattle.ov_base.specs.Number.{number_of}
use Rattle.ov_base.specs.Split.{cut_at}

-- the times of versions are below this number
abbrev pub time_limit : ℕ
time_limit = 2 ^ 47

-- the gates of versions are below this number
abbrev pub gate_limit : ℕ
gate_limit = 65536

-- the number of a version
abbrev pub number : ℕ → ℕ → ℕ
number time gate = time * gate_limit + gate

abbrev pub time_of : ℕ → ℕ
time_of n = n / gate_limit

abbrev pub gate_of : ℕ → ℕ
gate_of n = n % gate_limit

-- the numbers of versions in form
abbrev pub IsVersion : ℕ → Type 0
IsVersion n = n < 2 ^ 63

-- the one spelling, `TIME.GATE`
abbrev pub version_text : ℕ → List ℕ
version_text n = decimal (time_of n) ++ 46 ∷ decimal (gate_of n)

-- reading `TIME.GATE`
unfoldable pub version_of : List ℕ → Option ℕ
version_of bytes = do
  parts ← cut_at 46 bytes
  time ← number_of parts.0
  gate ← number_of parts.1
  if nat_lt time time_limit && nat_lt gate gate_limit then Some (number time gate) else None

-- The two fields of a version are in their ranges.
pub record IsInForm (time gate : ℕ) : Type 0 where
  pub early : time < time_limit
  pub small : gate < gate_limit
