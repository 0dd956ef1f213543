use Rattle.ov_history.proofs.Giving.{may_given}
use Rattle.ov_history.proofs.laws.may_is_given.Goals as goal

pub returns : goal.returns
returns c = λ t h e shape may. may_given t h e may
