use Rattle.std.proofs.Common.{◌≡◌, ◌++◌, map}
use Rattle.ov_topology.specs.declared.actor.Actor.TheVariants.{Node}
use Rattle.ov_follow.specs.Passes.{each, running, take}
use Rattle.ov_world.specs.Acts.{line_in}
use Rattle.ov_step.proofs.answer.list_by_parts.Given as goal

abbrev pub invariant-loop-part : goal.invariant-loop-part
invariant-loop-part l = map line_in l.lines.items ≡ map line_in l.fn.lines.items ++ each (λ p. running l.fn.world.history (take (Node l.fn.centre p) l.fn.number 1)) l.part
