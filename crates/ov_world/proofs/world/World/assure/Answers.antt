use Rattle.ov_world.proofs.Promises.{holds}
use Rattle.ov_world.proofs.world.World.assure.Goals as goal

pub returns : goal.returns
returns c = rw (← c.self.view_is) (holds _ _ c.self.invariant.world.run)
