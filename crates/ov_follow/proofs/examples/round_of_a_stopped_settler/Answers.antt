use Rattle.std.proofs.Common.{refl}
use Rattle.ov_base.specs.Key.{key_eq}
use Rattle.ov_functor.specs.Execution.{changed, covers}
use Rattle.ov_follow.proofs.examples.round_of_a_stopped_settler.Goals as goal

pub returns-clause-lines : goal.returns-clause-lines
unfolding key_eq changed covers
returns-clause-lines c = refl

pub returns-clause-calm : goal.returns-clause-calm
unfolding key_eq changed covers
returns-clause-calm c = refl
