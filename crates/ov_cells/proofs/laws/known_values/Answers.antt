use Rattle.ov_cells.proofs.Closing.{all_shown}
use Rattle.ov_cells.proofs.laws.known_values.Goals as goal

pub returns : goal.returns
returns c = all_shown
