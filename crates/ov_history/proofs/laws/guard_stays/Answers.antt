use Rattle.ov_history.proofs.Stays.{may_stays}
use Rattle.ov_history.proofs.laws.guard_stays.Goals as goal

pub returns : goal.returns
returns c = λ t h e other apart may. may_stays t h e other.actor other.kind apart may
