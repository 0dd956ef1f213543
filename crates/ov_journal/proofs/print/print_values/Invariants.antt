use Rattle.std.proofs.Common.{◌≡◌, ◌++◌, take}
use Rattle.ov_journal.specs.Text.{values_text}
use Rattle.ov_journal.proofs.print.print_values.Given as goal

abbrev pub invariant-loop-valued : goal.invariant-loop-valued
invariant-loop-valued l = l.text.items ≡ l.initial.text.items ++ values_text (take l.valued-index l.values)
