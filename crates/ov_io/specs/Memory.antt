-- What is seen of a shelf and of a sink in memory that fail at chosen calls.
use Rattle.std.specs.Prelude.{ℕ, ◌==◌, ◌+◌, ◌^◌, ◌-◌, min, Bool, List}
use Rattle.std.specs.List.{list_any}
use Rattle.ov_io.specs.declared.files.NamedFile.{NamedFile}

-- A shelf: its files, the numbers of the calls that are to fail, how many calls were made, and how many
-- reads of names that are not there have failed.
pub record ShelfState : Type 0 where
  pub files : List NamedFile
  pub failing : List ℕ
  pub calls : ℕ
  pub absent : ℕ

-- A sink: what was written, the numbers of the calls that are to fail, how many were made, and how many failed.
pub record SinkState : Type 0 where
  pub written : List ℕ
  pub failing : List ℕ
  pub calls : ℕ
  pub failed : ℕ

-- the count after one more, which stands still at the end of its type
abbrev pub counted : ℕ → ℕ
counted n = min (n + 1) (2 ^ 64 - 1)

-- whether the next call is to fail
abbrev pub is_to_fail : List ℕ → ℕ → Bool
is_to_fail failing calls = list_any (λ number. number == counted calls) failing
