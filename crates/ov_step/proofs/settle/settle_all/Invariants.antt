use Rattle.ov_follow.specs.Passes.{each}
use Rattle.ov_step.specs.Followed.{Followed}
use Rattle.ov_world.specs.World.{setting_of}
use Rattle.ov_step.proofs.Asking.{settlement}
use Rattle.ov_step.proofs.settle.settle_all.Given as goal

abbrev pub invariant-loop-settler : goal.invariant-loop-settler
invariant-loop-settler l = Followed (each (settlement (setting_of l.fn.world) l.fn.world.history) l.settler) l.fn.world l.world
