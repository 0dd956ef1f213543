use Rattle.std.proofs.Common.{refl}
use Rattle.ov_base.specs.Key.{key_eq}
use Rattle.ov_functor.specs.Execution.{changed, covers}
use Rattle.ov_follow.proofs.examples.replied_once.Goals as goal

pub returns-clause-lines : goal.returns-clause-lines
unfolding key_eq changed covers
returns-clause-lines c = refl

pub returns-clause-replies : goal.returns-clause-replies
unfolding key_eq changed covers
returns-clause-replies c = refl
