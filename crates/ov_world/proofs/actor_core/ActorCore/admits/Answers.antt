use Rattle.std.proofs.lemmas.Result.{IfOk-weaker}
use Rattle.ov_world.proofs.actor_core.ActorCore.admits.Goals as goal

pub returns-in-Gate : goal.returns-in-Gate
returns-in-Gate c = rw c.in-Gate.is c.admits.ensures

pub returns-in-Node : goal.returns-in-Node
returns-in-Node c = rw c.in-Node.is (IfOk-weaker c.admits-in-Node.result _ _ (λ admits says t h actor same is. says t h actor is) c.admits-in-Node.ensures)

pub returns-in-Settler : goal.returns-in-Settler
returns-in-Settler c = rw c.in-Settler.is (IfOk-weaker c.admits-in-Settler.result _ _ (λ admits says t h actor same is. says t h actor is) c.admits-in-Settler.ensures)
