use Rattle.std.proofs.Common.{refl}
use Rattle.ov_world.proofs.actor_core.ActorCore.new.Goals as goal

pub returns-in-Node : goal.returns-in-Node
returns-in-Node c = rw c.in-Node.is (c.new-in-Node.ensures.stands _ c.partitions.ensures.form (rw c.in-Node.is at c.requires.known))

pub returns-in_ok-new-in-Settler : goal.returns-in_ok-new-in-Settler
returns-in_ok-new-in-Settler c = rw c.in-Settler.is (c.in_ok-new-in-Settler.ensures _ refl)
