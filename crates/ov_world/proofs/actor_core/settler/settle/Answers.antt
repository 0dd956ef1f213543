use Rattle.std.proofs.Common.{sym}
use Rattle.std.proofs.lemmas.Result.{IfOk-weaker}
use Rattle.ov_history.specs.Gives.{Settle}
use Rattle.ov_settler.specs.Settler.{IsSettler, is_settled}
use Rattle.ov_world.proofs.Acting.{does_where}
use Rattle.ov_world.proofs.ActingSettlers.{settles_none, settles_passes}
use Rattle.ov_world.proofs.actor_core.settler.settle.Goals as goal

pub returns-then-not-whole-clause-does : goal.returns-then-not-whole-clause-does
returns-then-not-whole-clause-does c = λ t h actor is.
    settles_none t h actor c.args.core.now c.in-Some.harvest.now is (sym (rw c.in-Some.is at c.harvest.ensures))
    (λ whole. let a = rw c.if-not-whole.true at (c.whole.ensures.1 whole) in absurd cc)

pub returns-clause-does : goal.returns-clause-does
returns-clause-does c = IfOk-weaker c.settle.result _ _ (λ answer says t h actor is.
    does_where IsSettler is_settled t h actor Settle answer c.settle.new.self
    (rw is.actor_is (settles_passes t.topology h c.args.core.now.centre))
    (says t h actor is)) c.settle.ensures.steps
