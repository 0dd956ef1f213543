use Rattle.std.proofs.Common.{refl}
use Rattle.ov_base.specs.Key.{key_eq}
use Rattle.ov_functor.specs.Execution.{changed, covers}
use Rattle.ov_follow.proofs.AllKinds.{example_lawful}
use Rattle.ov_follow.proofs.examples.example_is_lawful.Goals as goal

pub returns-clause-lawful : goal.returns-clause-lawful
returns-clause-lawful c = example_lawful

pub returns-clause-kinds : goal.returns-clause-kinds
unfolding key_eq changed covers
returns-clause-kinds c = refl
