use Rattle.ov_window.proofs.Evaluating.{place_value}
use Rattle.ov_window.proofs.laws.place_values.Goals as goal

pub returns : goal.returns
returns c = place_value
