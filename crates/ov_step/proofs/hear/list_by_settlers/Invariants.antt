use Rattle.std.proofs.Common.{◌≡◌, ◌++◌, map}
use Rattle.ov_topology.specs.declared.actor.Actor.TheVariants.{Settler}
use Rattle.ov_follow.specs.Passes.{each, running, take}
use Rattle.ov_world.specs.Acts.{line_in}
use Rattle.ov_step.proofs.hear.list_by_settlers.Given as goal

abbrev pub invariant-loop-centre : goal.invariant-loop-centre
invariant-loop-centre l = map line_in l.lines.items ≡ map line_in l.fn.lines.items ++ each (λ s. running l.fn.world.history (take (Settler s) l.fn.number 1)) l.centre
