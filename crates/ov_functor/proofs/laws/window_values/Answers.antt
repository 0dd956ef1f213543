use Rattle.std.proofs.Common.{add-one}
use Rattle.ov_functor.proofs.WindowValues.{window-is-serial}
use Rattle.ov_functor.proofs.laws.window_values.Goals as goal

pub returns : goal.returns
returns c = λ begun base from below items base_is down fits covers. window-is-serial begun base from below items base_is (rw (← add-one) down) fits covers
