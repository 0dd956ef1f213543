use Rattle.ov_laws.proofs.Values.Shown.{drawn_after}
use Rattle.ov_laws.proofs.laws.values.order.Goals as goal

pub returns : goal.returns
returns c = drawn_after
