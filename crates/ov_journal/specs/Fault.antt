-- The fault line of a journal.
use Rattle.std.specs.Prelude.{ℕ, List, [], ◌++◌, codes}
use Rattle.std.specs.Fmt.{decimal}
use Rattle.ov_journal.specs.declared.error.JournalError.{JournalError}
use Rattle.ov_journal.specs.declared.error.JournalError.TheVariants.{Memory, Line}

-- the fault line, without its line feed
abbrev pub journal_fault_text : JournalError → List ℕ
journal_fault_text Memory = []
journal_fault_text (Line line) = codes "journal: line " ++ decimal line
