-- The words of modes.
use Rattle.std.specs.Prelude.{ℕ, List, codes, Option, Some, None, if◌then◌else◌}
use Rattle.std.specs.Str.{bytes_eq}
use Rattle.ov_topology.specs.declared.mode.Mode.{Mode}
use Rattle.ov_topology.specs.declared.mode.Mode.TheVariants.{Quorum, One}

-- the one spelling
abbrev pub mode_text : Mode → List ℕ
mode_text Quorum = codes "quorum"
mode_text One = codes "one"

-- each mode has a word
abbrev pub IsMode : Mode → Type 0
IsMode mode = Unit {0}

-- reading `quorum` or `one`
abbrev pub mode_of : List ℕ → Option Mode
mode_of word = if bytes_eq word (codes "quorum") then Some Quorum else (if bytes_eq word (codes "one") then Some One else None)
