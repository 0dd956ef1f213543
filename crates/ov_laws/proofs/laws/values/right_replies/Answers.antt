use Rattle.ov_laws.proofs.Values.Shown.{replied_is_expected}
use Rattle.ov_laws.proofs.laws.values.right_replies.Goals as goal

pub returns : goal.returns
returns c = λ t h g s c reply run has. replied_is_expected t run.0 h has.number g s c has.place reply run.1 has.there
