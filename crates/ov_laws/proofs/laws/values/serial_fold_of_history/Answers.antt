use Rattle.ov_laws.proofs.Values.Begins.{begins_fall, found_begins, folded_begins}
use Rattle.ov_laws.proofs.laws.values.serial_fold_of_history.Goals as goal

pub returns-clause-falls : goal.returns-clause-falls
returns-clause-falls c = begins_fall

pub returns-clause-has : goal.returns-clause-has
returns-clause-has c = found_begins

pub returns-clause-fold : goal.returns-clause-fold
returns-clause-fold c = folded_begins
