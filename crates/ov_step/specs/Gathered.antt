-- Passes that list lines for each entry: up to where nothing is left to list.
use Rattle.std.specs.Prelude.{◌≡◌, ℕ, ◌+◌, ◌≤◌, List, [], ◌∷◌, length}
use Rattle.ov_event.specs.Letters.{letters_of}
use Rattle.ov_event.specs.declared.entry.Entry.{Entry}
use Rattle.ov_history.specs.Past.{History}
use Rattle.ov_history.specs.May.{Setting}
use Rattle.ov_follow.specs.Lines.{Line}
use Rattle.ov_follow.specs.Passes.{over, told_lines, write_lines, ack_lines, reply_lines}

-- What a pass lists for an entry, by its number, after a history.
abbrev pub Lister : Type 0
Lister = Setting → History → ℕ → Entry → List Line

-- what the passes 1, 3, 4 and 14 list for an entry
abbrev pub told_by : Lister
told_by t h number e = told_lines t h number e.actor e.kind

abbrev pub stored_by : Lister
stored_by t h number e = over (write_lines t h number) 1 (letters_of t.topology e)

abbrev pub acked_by : Lister
acked_by t h number e = ack_lines t h number e.actor e.kind

abbrev pub replied_by : Lister
replied_by t h number e = reply_lines h number e.kind

-- of these entries none up to a number has a line
abbrev pub NothingUpTo : (ℕ → Entry → List Line) → ℕ → History → Type 0
NothingUpTo f n [] = Unit {0}
NothingUpTo f n (e ∷ h) = NothingUpTo f n h × (length h + 1 ≤ n → f (length h + 1) e ≡ [])

-- Up to the entry of a number of the history, none has a line that the pass lists.
pub record IsClear (f : Lister) (t : Setting) (h : History) (n : ℕ) : Type 0 where
  pub within : n ≤ length h
  pub nothing : NothingUpTo (f t h) n h

-- what has no line once has none after one entry more
abbrev pub Stays : Lister → Type 0
Stays f = (t : Setting) (h : History) (more e : Entry) (number : ℕ) → f t h number e ≡ [] → f t (more ∷ h) number e ≡ []
