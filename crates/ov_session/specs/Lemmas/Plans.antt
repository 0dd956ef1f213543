-- Tests of plans hold of equal things alone, in the form that `grind` applies by itself.
use Rattle.std.specs.Prelude.{◌≡◌, false, ◌⊎◌, List}
use Rattle.ov_base.specs.Exact.{lists_same}
use Rattle.ov_base.specs.Lemmas.{lists_same-cases}
use Rattle.ov_session.specs.declared.plan.SessionPlan.{SessionPlan}
use Rattle.ov_session.specs.contracts.plan.SessionPlanPartialEq.TheImpl.{ghosts}
use Rattle.ov_session.specs.contracts.plan.SessionPlanPlain.TheImpl.Laws.{exact-law}

pub plans-cases : (xs ys : List SessionPlan) → (lists_same ghosts.eq xs ys ≡ false) ⊎ (xs ≡ ys)
plans-cases xs ys = lists_same-cases ghosts.eq exact-law xs ys
