use Rattle.std.proofs.Common.{length}
use Rattle.ov_cases.proofs.line.+append_unescaped.Given as goal

-- what is left of the line falls
abbrev pub decreases-append_unescaped : goal.decreases-append_unescaped
decreases-append_unescaped l = length l.text.now
