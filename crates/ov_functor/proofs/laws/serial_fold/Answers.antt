use Rattle.ov_functor.proofs.SerialFold.{folded-is-serial}
use Rattle.ov_functor.proofs.laws.serial_fold.Goals as goal

pub returns : goal.returns
returns c = folded-is-serial
