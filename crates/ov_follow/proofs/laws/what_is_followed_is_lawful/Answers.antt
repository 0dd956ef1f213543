use Rattle.std.specs.Prelude.{◌+◌}
use Rattle.ov_follow.specs.Calm.{commands}
use Rattle.ov_follow.proofs.Lawful.{drive_lawful, round_lawful, rounds_lawful}
use Rattle.ov_follow.proofs.laws.what_is_followed_is_lawful.Goals as goal

pub returns-clause-drive : goal.returns-clause-drive
returns-clause-drive c = λ t h schedule shape lawful. drive_lawful t schedule h shape lawful

pub returns-clause-round : goal.returns-clause-round
returns-clause-round c = round_lawful

pub returns-clause-calm : goal.returns-clause-calm
returns-clause-calm c = λ t h shape lawful. rounds_lawful (commands t + 1) t h shape lawful
