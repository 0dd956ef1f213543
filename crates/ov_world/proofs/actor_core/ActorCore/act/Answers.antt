use Rattle.std.proofs.lemmas.Result.{IfOk-weaker}
use Rattle.ov_world.proofs.actor_core.ActorCore.act.Goals as goal

pub returns-in-Gate-clause-does : goal.returns-in-Gate-clause-does
returns-in-Gate-clause-does c = rw c.in-Gate.is (IfOk-weaker c.act.result _ _ (λ answer says t h actor same lawful is there.
    let does = says t h actor same lawful is there in record { given = does.given; stands = does.stands }) c.act.ensures.does)

pub returns-in-Node-clause-does : goal.returns-in-Node-clause-does
returns-in-Node-clause-does c = rw c.in-Node.is (IfOk-weaker c.act-in-Node.result _ _ (λ answer says t h actor same lawful is there.
    let does = says t h actor is there in record { given = does.given; stands = does.stands }) c.act-in-Node.ensures.does)

pub returns-in-Settler-clause-does : goal.returns-in-Settler-clause-does
returns-in-Settler-clause-does c = rw c.in-Settler.is (IfOk-weaker c.act-in-Settler.result _ _ (λ answer says t h actor same lawful is there.
    let does = says t h actor lawful is there in record { given = does.given; stands = does.stands }) c.act-in-Settler.ensures.does)
