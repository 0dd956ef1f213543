use Rattle.ov_history.specs.Gives.{Publish}
use Rattle.ov_topology.specs.declared.actor.Actor.TheVariants.{Gate}
use Rattle.ov_follow.specs.Passes.{each, running}
use Rattle.ov_step.specs.Followed.{Followed}
use Rattle.ov_step.proofs.publish.publish_all.Given as goal

abbrev pub invariant-loop-gate : goal.invariant-loop-gate
invariant-loop-gate l = Followed (each (λ g. running l.fn.world.history (record { actor = Gate g; act = Publish 0 })) l.gate) l.fn.world l.world
