-- Judging a list of entries, the oldest first: whether each may follow those before it.
use Rattle.std.specs.Prelude.{◌≡◌, ℕ, ◌+◌, List, ◌∷◌, ◌++◌, length, reverse, Option, Some, None}
use Rattle.ov_event.specs.declared.entry.Entry.{Entry}
use Rattle.ov_history.specs.May.{Setting, Lawful, May}

-- The first entry that may not follow those before it has this number.
pub record FirstRefused (t : Setting) (entries : List Entry) (number : ℕ) : Type 0 where
  pub front : List Entry
  pub refused : Entry
  pub rest : List Entry
  pub split : entries ≡ front ++ refused ∷ rest
  pub number_is : number ≡ length front + 1
  pub lawful : Lawful t (reverse front)
  pub may_not : ¬ May t (reverse front) refused

-- the entries are lawful, or the one of this number is the first that may not follow
abbrev pub Judged : Setting → List Entry → Option ℕ → Type 0
Judged t entries None = Lawful t (reverse entries)
Judged t entries (Some number) = FirstRefused t entries number
