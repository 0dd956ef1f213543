use Rattle.std.proofs.Common.{refl, sym}
use Rattle.std.proofs.lemmas.Result.{IfOk-weaker}
use Rattle.ov_event.specs.declared.kind.Kind.TheVariants as kinds
use Rattle.ov_history.specs.Past.{stops}
use Rattle.ov_history.specs.Gives.{Begin, Publish, Stop}
use Rattle.ov_gate.specs.Gate.{IsGate, is_begun, is_published}
use Rattle.ov_world.proofs.Acting.{one_passes, does_where}
use Rattle.ov_world.proofs.ActingGates.{begins_passes, publishes_passes}
use Rattle.ov_world.proofs.actor_core.gate.act.Goals as goal

pub returns-in-Begin-clause-does : goal.returns-in-Begin-clause-does
returns-in-Begin-clause-does c = rw c.in-Begin.is (IfOk-weaker c.begin.result _ _ (λ answer says t h actor same lawful is none.
    does_where IsGate is_begun t h actor (Begin c.in-Begin.session c.in-Begin.clock) answer c.begin.new.self
    (rw is.actor_is (begins_passes t h c.args.core.now.gate c.in-Begin.session c.in-Begin.clock))
    (says t h actor same is)) c.begin.ensures.steps)

pub returns-in-Some-clause-does : goal.returns-in-Some-clause-does
returns-in-Some-clause-does c = rw (c.in-Take.is, c.in-Some.is) (IfOk-weaker c.take.result _ _ (λ answer says t h actor same lawful is there.
    says t h actor lawful is (sym there)) c.take.ensures.does)

pub returns-in-Publish-clause-does : goal.returns-in-Publish-clause-does
returns-in-Publish-clause-does c = rw c.in-Publish.is (λ t h actor same lawful is none.
    does_where IsGate is_published t h actor (Publish c.in-Publish.clock) c.publish.result c.publish.new.self
    (rw is.actor_is (publishes_passes t.topology h c.args.core.now.gate c.in-Publish.clock))
    (c.publish.ensures.steps t h actor is))

pub returns-in-Stop-clause-does : goal.returns-in-Stop-clause-does
returns-in-Stop-clause-does c = rw c.in-Stop.is (λ t h actor same lawful is none.
    does_where IsGate stops t h actor Stop c.stop.result c.stop.new.self (one_passes stops kinds.Stopped refl) (c.stop.ensures.steps t h actor is))
