use Rattle.std.proofs.Common.{◌∙◌}
use Rattle.ov_topology.specs.Shape.{gates}
use Rattle.ov_topology.specs.declared.actor.Actor.TheVariants.{Gate}
use Rattle.ov_history.specs.Gives.{Publish}
use Rattle.ov_follow.specs.Passes.{running}
use Rattle.ov_step.proofs.Passing.{in_part, running_more}
use Rattle.ov_step.proofs.publish.publish_all.Goals as goal

pub returns-in-Err-clause-part : goal.returns-in-Err-clause-part
returns-in-Err-clause-part c =
    in_part (λ g. running c.args.world.now.history (record { actor = Gate g; act = Publish 0 })) c.loop-gate.gate (gates c.args.world.now.topology) c.args.world.now c.follow_line.new.self (rw (c.gateways-gate-end.ensures.value, c.topology.ensures) at c.loop-gate.auto.gate-end) (c.in-Err.ensures.err ∙ c.loop-gate.invariant)

pub loop-gate-preserved : goal.loop-gate-preserved
loop-gate-preserved c = running_more (λ g. record { actor = Gate g; act = Publish 0 }) c.loop-gate.gate c.args.world.now c.loop-gate.world c.follow_line.new.self c.loop-gate.invariant c.in-Ok.ensures.follow
