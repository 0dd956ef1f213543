use Rattle.std.proofs.Common.{◌≡◌, ◌++◌, take}
use Rattle.ov_journal.specs.Text.{vector_text}
use Rattle.ov_journal.proofs.print.print_vector.Given as goal

abbrev pub invariant-loop-marks : goal.invariant-loop-marks
invariant-loop-marks l = l.text.items ≡ l.initial.text.items ++ vector_text (take l.marks-index l.vector)
