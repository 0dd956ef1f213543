use Rattle.std.proofs.Common.{refl}
use Rattle.ov_base.specs.Key.{key_eq}
use Rattle.ov_functor.specs.Execution.{changed, covers}
use Rattle.ov_follow.proofs.examples.one_answer_too_few.Goals as goal

pub returns : goal.returns
unfolding key_eq changed covers
returns c = refl
