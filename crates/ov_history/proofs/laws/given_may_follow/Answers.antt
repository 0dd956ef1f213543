use Rattle.ov_history.proofs.Given.{given_follows}
use Rattle.ov_history.proofs.laws.given_may_follow.Goals as goal

pub returns : goal.returns
returns c = given_follows
