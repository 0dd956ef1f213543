use Rattle.std.proofs.Common.{◌≡◌, ◌+◌, ◌≤◌, length}
use Rattle.ov_base.specs.Lines.{read_from, read_text}
use Rattle.ov_base.proofs.LineTexts.{pieces_in}
use Rattle.ov_base.proofs.lines.read_lines.Given as goal

-- what the rest makes of what was read is what the text makes of what is empty, and there are no more lines than bytes
abbrev pub invariant-loop-ended : goal.invariant-loop-ended
invariant-loop-ended g l =
    (read_from g.T.FromLines.taken g.T.FromLines.unended l.read l.line (pieces_in l.rest) ≡ read_text g.T.FromLines.taken g.T.FromLines.unended l.fn.empty l.fn.text)
    × (l.line + length l.rest ≤ length l.fn.text + 1)

abbrev pub decreases-loop-ended : goal.decreases-loop-ended
decreases-loop-ended g l = length l.rest
