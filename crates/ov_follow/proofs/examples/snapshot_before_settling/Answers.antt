use Rattle.std.proofs.Common.{refl}
use Rattle.ov_base.specs.Key.{key_eq}
use Rattle.ov_functor.specs.Execution.{changed, covers}
use Rattle.ov_follow.proofs.examples.snapshot_before_settling.Goals as goal

pub returns-clause-lines : goal.returns-clause-lines
unfolding key_eq changed covers
returns-clause-lines c = refl

pub returns-clause-shown : goal.returns-clause-shown
unfolding key_eq changed covers
returns-clause-shown c = refl
