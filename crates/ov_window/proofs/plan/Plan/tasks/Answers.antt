use Rattle.std.proofs.Common.{subst}
use Rattle.ov_window.specs.Plan.{IsPlan}
use Rattle.ov_window.proofs.plan.Plan.tasks.Goals as goal

pub returns-clause-form : goal.returns-clause-form
returns-clause-form c = subst IsPlan c.self.view_is c.self.invariant
