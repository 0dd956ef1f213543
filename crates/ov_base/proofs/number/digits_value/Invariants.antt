use Rattle.std.proofs.Common.{◌≡◌, length}
use Rattle.ov_base.specs.Number.{value_after}
use Rattle.ov_base.proofs.number.digits_value.Given as goal

-- the digits so far and those of the rest are all digits
abbrev pub invariant-loop-rest : goal.invariant-loop-rest
invariant-loop-rest l = value_after l.number l.rest ≡ value_after 0 l.fn.text

abbrev pub decreases-loop-rest : goal.decreases-loop-rest
decreases-loop-rest l = length l.rest
