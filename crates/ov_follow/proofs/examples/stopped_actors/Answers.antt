use Rattle.std.proofs.Common.{refl}
use Rattle.ov_base.specs.Key.{key_eq}
use Rattle.ov_functor.specs.Execution.{changed, covers}
use Rattle.ov_follow.proofs.Wholes.{broken, whole}
use Rattle.ov_follow.proofs.examples.stopped_actors.Goals as goal

pub returns-clause-entries : goal.returns-clause-entries
unfolding key_eq changed covers
returns-clause-entries c = refl

pub returns-clause-waits : goal.returns-clause-waits
unfolding key_eq changed covers
returns-clause-waits c = refl

pub returns-clause-broken : goal.returns-clause-broken
returns-clause-broken c = broken

pub returns-clause-replies : goal.returns-clause-replies
unfolding key_eq changed covers
returns-clause-replies c = refl

pub returns-clause-whole : goal.returns-clause-whole
returns-clause-whole c = whole
