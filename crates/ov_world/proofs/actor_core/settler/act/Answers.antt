use Rattle.std.proofs.Common.{refl, sym}
use Rattle.std.proofs.lemmas.Result.{IfOk-weaker}
use Rattle.ov_event.specs.declared.kind.Kind.TheVariants as kinds
use Rattle.ov_history.specs.Past.{stops}
use Rattle.ov_history.specs.Gives.{Ask, Stop}
use Rattle.ov_settler.specs.Settler.{IsSettler, is_asked}
use Rattle.ov_world.proofs.Acting.{one_passes, does_where}
use Rattle.ov_world.proofs.ActingSettlers.{asks_passes}
use Rattle.ov_world.proofs.actor_core.settler.act.Goals as goal

pub returns-in-Some-clause-does : goal.returns-in-Some-clause-does
returns-in-Some-clause-does c = rw (c.in-Take.is, c.in-Some.is) (IfOk-weaker c.take.result _ _ (λ answer says t h actor lawful is there.
    says t h actor lawful is (sym there)) c.take.ensures.does)

pub returns-in-Ask-clause-does : goal.returns-in-Ask-clause-does
returns-in-Ask-clause-does c = rw c.in-Ask.is (IfOk-weaker c.ask.result _ _ (λ answer says t h actor lawful is none.
    does_where IsSettler is_asked t h actor (Ask c.in-Ask.mode) answer c.ask.new.self
    (rw is.actor_is (asks_passes t.topology h c.args.core.now.centre c.in-Ask.mode))
    (says t h actor is)) c.ask.ensures.steps)

pub returns-in-Settle-clause-does : goal.returns-in-Settle-clause-does
returns-in-Settle-clause-does c = rw c.in-Settle.is (IfOk-weaker c.settle.result _ _ (λ answer says t h actor lawful is none. says t h actor is) c.settle.ensures.does)

pub returns-in-Stop-clause-does : goal.returns-in-Stop-clause-does
returns-in-Stop-clause-does c = rw c.in-Stop.is (λ t h actor lawful is none.
    does_where IsSettler stops t h actor Stop c.stop.result c.stop.new.self (one_passes stops kinds.Stopped refl) (c.stop.ensures.steps t h actor is))
