use Rattle.ov_settler.proofs.Settles.{base_is}
use Rattle.ov_settler.proofs.laws.settler_knows.Goals as goal

pub returns : goal.returns
returns c = base_is
