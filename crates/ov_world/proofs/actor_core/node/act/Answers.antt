use Rattle.std.proofs.Common.{refl, sym}
use Rattle.std.proofs.lemmas.Result.{IfOk-weaker}
use Rattle.ov_event.specs.declared.kind.Kind.TheVariants as kinds
use Rattle.ov_history.specs.Past.{stops}
use Rattle.ov_history.specs.Gives.{Stop}
use Rattle.ov_node.specs.Node.{IsNode}
use Rattle.ov_world.proofs.Acting.{one_passes, does_where}
use Rattle.ov_world.proofs.actor_core.node.act.Goals as goal

pub returns-in-Some-clause-does : goal.returns-in-Some-clause-does
returns-in-Some-clause-does c = rw (c.in-Take.is, c.in-Some.is) (IfOk-weaker c.take.result _ _ (λ answer says t h actor is there.
    says t h actor is (sym there)) c.take.ensures.does)

pub returns-in-Stop-clause-does : goal.returns-in-Stop-clause-does
returns-in-Stop-clause-does c = rw c.in-Stop.is (λ t h actor is none.
    does_where IsNode stops t h actor Stop c.stop.result c.stop.new.self (one_passes stops kinds.Stopped refl) (c.stop.ensures.steps t h actor is))
