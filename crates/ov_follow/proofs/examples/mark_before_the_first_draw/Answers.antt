use Rattle.std.proofs.Common.{refl}
use Rattle.ov_base.specs.Key.{key_eq}
use Rattle.ov_functor.specs.Execution.{changed, covers}
use Rattle.ov_follow.proofs.examples.mark_before_the_first_draw.Goals as goal

pub returns-clause-lines : goal.returns-clause-lines
unfolding key_eq changed covers
returns-clause-lines c = refl

pub returns-clause-first : goal.returns-clause-first
unfolding key_eq changed covers
returns-clause-first c = refl

pub returns-clause-draws : goal.returns-clause-draws
unfolding key_eq changed covers
returns-clause-draws c = refl

pub returns-clause-second : goal.returns-clause-second
unfolding key_eq changed covers
returns-clause-second c = refl
