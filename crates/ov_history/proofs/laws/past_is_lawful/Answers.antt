use Rattle.ov_history.proofs.Past.{lawful_at, lawful_before}
use Rattle.ov_history.proofs.laws.past_is_lawful.Goals as goal

pub returns-clause-followed : goal.returns-clause-followed
returns-clause-followed c = lawful_at

pub returns-clause-lawful : goal.returns-clause-lawful
returns-clause-lawful c = lawful_before
