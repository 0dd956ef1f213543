use Rattle.ov_follow.proofs.Replies.{replies_few}
use Rattle.ov_follow.proofs.Rounds.{rounds_enough}
use Rattle.ov_follow.proofs.laws.calm_has_rounds_enough.Goals as goal

pub returns-clause-replies : goal.returns-clause-replies
returns-clause-replies c = replies_few

pub returns-clause-rounds : goal.returns-clause-rounds
returns-clause-rounds c = λ t h n shape lawful enough. rounds_enough n t h shape lawful enough
