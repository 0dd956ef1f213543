use Rattle.ov_follow.specs.Passes.{each}
use Rattle.ov_step.specs.Followed.{Followed}
use Rattle.ov_world.specs.World.{setting_of}
use Rattle.ov_step.proofs.Beginning.{begin}
use Rattle.ov_step.proofs.begin.begin_all.Given as goal

abbrev pub invariant-loop-session : goal.invariant-loop-session
invariant-loop-session l = Followed (each (begin (setting_of l.fn.world) l.fn.world.history) l.session) l.fn.world l.world
