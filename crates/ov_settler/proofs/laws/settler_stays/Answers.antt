use Rattle.ov_settler.proofs.Others.{stays}
use Rattle.ov_settler.proofs.laws.settler_stays.Goals as goal

pub returns : goal.returns
returns c = stays
