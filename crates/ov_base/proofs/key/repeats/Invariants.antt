use Rattle.std.proofs.Common.{◌≡◌, length}
use Rattle.ov_base.specs.Key as spec
use Rattle.ov_base.proofs.key.repeats.Given as goal

abbrev pub invariant-loop-rest : goal.invariant-loop-rest
invariant-loop-rest l = spec.repeats l.keys ≡ spec.repeats l.rest

abbrev pub decreases-loop-rest : goal.decreases-loop-rest
decreases-loop-rest l = length l.rest
