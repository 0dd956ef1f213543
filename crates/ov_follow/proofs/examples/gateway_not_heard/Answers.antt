use Rattle.std.proofs.Common.{refl}
use Rattle.ov_base.specs.Key.{key_eq}
use Rattle.ov_functor.specs.Execution.{changed, covers}
use Rattle.ov_follow.proofs.examples.gateway_not_heard.Goals as goal

pub returns-clause-lines : goal.returns-clause-lines
unfolding key_eq changed covers
returns-clause-lines c = refl

pub returns-clause-draws : goal.returns-clause-draws
unfolding key_eq changed covers
returns-clause-draws c = refl

pub returns-clause-marks : goal.returns-clause-marks
unfolding key_eq changed covers
returns-clause-marks c = refl
