-- Judging a list of entries, the oldest first: whether each may follow those before it.
use Rattle.std.specs.Prelude.{List, reverse}
use Rattle.ov_event.specs.declared.entry.Entry.{Entry}
use Rattle.ov_history.specs.May.{Setting}
use Rattle.ov_history.specs.May as may
use Rattle.ov_world.specs.Judging.{FirstRefused}
use Rattle.ov_journal.specs.declared.verdict.Verdict.{Verdict}
use Rattle.ov_journal.specs.declared.verdict.Verdict.TheVariants.{Lawful, Refused}

-- the verdict is right: the entries are a lawful history, or the one that it names is the first that may not follow
abbrev pub Judges : Setting → List Entry → Verdict → Type 0
Judges t entries Lawful = may.Lawful t (reverse entries)
Judges t entries (Refused number) = FirstRefused t entries number
