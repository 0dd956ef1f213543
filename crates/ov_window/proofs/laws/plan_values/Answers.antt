use Rattle.std.proofs.Common.{[]}
use Rattle.ov_functor.proofs.Unions.{all_added_sorted}
use Rattle.ov_window.proofs.PlanValues.{plan_fed, plan_right}
use Rattle.ov_window.proofs.laws.plan_values.Goals as goal

pub returns-clause-values : goal.returns-clause-values
returns-clause-values c = plan_right

pub returns-clause-sorted : goal.returns-clause-sorted
returns-clause-sorted c = λ items. all_added_sorted items [] tt

pub returns-clause-plan : goal.returns-clause-plan
returns-clause-plan c = plan_fed
