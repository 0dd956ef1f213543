use Rattle.ov_gate.proofs.Others.{stays}
use Rattle.ov_gate.proofs.laws.gate_stays.Goals as goal

pub returns : goal.returns
returns c = stays
