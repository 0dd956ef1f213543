use Rattle.ov_report.proofs.Shown.{answered, shown_there}
use Rattle.ov_report.proofs.laws.replies_are_there.Goals as goal

pub returns-clause-there : goal.returns-clause-there
returns-clause-there c = shown_there

pub returns-clause-answered : goal.returns-clause-answered
returns-clause-answered c = answered
