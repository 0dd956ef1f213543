use Rattle.ov_complete.proofs.Ending.{calm_once}
use Rattle.ov_complete.proofs.laws.all_replied.Goals as goal

pub returns : goal.returns
returns c = calm_once
