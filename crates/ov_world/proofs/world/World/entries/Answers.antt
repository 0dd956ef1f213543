use Rattle.ov_world.proofs.Promises.{holds}
use Rattle.ov_world.proofs.world.World.entries.Goals as goal

pub returns-clause-holds : goal.returns-clause-holds
returns-clause-holds c = rw (← c.self.view_is) (holds _ _ c.self.invariant.world.run)
