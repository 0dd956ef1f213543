use Rattle.std.proofs.Common.{refl}
use Rattle.ov_base.specs.Key.{key_eq}
use Rattle.ov_functor.specs.Execution.{changed, covers}
use Rattle.ov_follow.proofs.examples.two_rounds_of_one_centre.Goals as goal

pub returns-clause-lines : goal.returns-clause-lines
unfolding key_eq changed covers
returns-clause-lines c = refl

pub returns-clause-first : goal.returns-clause-first
unfolding key_eq changed covers
returns-clause-first c = refl

pub returns-clause-nothing : goal.returns-clause-nothing
unfolding key_eq changed covers
returns-clause-nothing c = refl

pub returns-clause-marks : goal.returns-clause-marks
unfolding key_eq changed covers
returns-clause-marks c = refl

pub returns-clause-second : goal.returns-clause-second
unfolding key_eq changed covers
returns-clause-second c = refl

pub returns-clause-settles : goal.returns-clause-settles
unfolding key_eq changed covers
returns-clause-settles c = refl
