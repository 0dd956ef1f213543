use Rattle.ov_history.proofs.Stays.{may_stays_after}
use Rattle.ov_history.proofs.laws.guard_stays_after.Goals as goal

pub returns : goal.returns
returns c = may_stays_after
