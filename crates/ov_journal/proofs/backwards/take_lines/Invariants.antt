use Rattle.std.proofs.Common.{◌≡◌, length, reverse}
use Rattle.ov_journal.specs.Journal.{followed, journal_of}
use Rattle.ov_journal.proofs.backwards.take_lines.Given as goal

-- the whole text is read as what is left of it, where the lines of the entries follow it
abbrev pub invariant-loop-front : goal.invariant-loop-front
invariant-loop-front l = journal_of l.initial.text.items ≡ followed (journal_of l.text.items) (reverse l.entries)

abbrev pub decreases-loop-front : goal.decreases-loop-front
decreases-loop-front l = length l.text.items
