use Rattle.std.proofs.Common.{refl}
use Rattle.ov_base.specs.Key.{key_eq}
use Rattle.ov_functor.specs.Execution.{changed, covers}
use Rattle.ov_follow.proofs.examples.bounds_of_amounts.Goals as goal

pub returns-clause-greatest : goal.returns-clause-greatest
unfolding key_eq changed covers
returns-clause-greatest c = refl

pub returns-clause-least : goal.returns-clause-least
unfolding key_eq changed covers
returns-clause-least c = refl
