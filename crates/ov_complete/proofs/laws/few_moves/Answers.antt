use Rattle.ov_complete.proofs.Few.{run_few}
use Rattle.ov_complete.proofs.laws.few_moves.Goals as goal

pub returns : goal.returns
returns c = run_few
