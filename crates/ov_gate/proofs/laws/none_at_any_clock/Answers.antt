use Rattle.ov_gate.proofs.Clocks.{none_begins, none_publishes}
use Rattle.ov_gate.proofs.laws.none_at_any_clock.Goals as goal

pub returns-clause-begins : goal.returns-clause-begins
returns-clause-begins c = none_begins

pub returns-clause-publishes : goal.returns-clause-publishes
returns-clause-publishes c = none_publishes
