use Rattle.std.proofs.Common.{◌≡◌, ◌++◌, map}
use Rattle.ov_follow.specs.Passes.{each}
use Rattle.ov_world.specs.Acts.{line_in}
use Rattle.ov_step.proofs.Listing.{centre_answers}
use Rattle.ov_step.proofs.answer.list_by_centres.Given as goal

abbrev pub invariant-loop-centre : goal.invariant-loop-centre
invariant-loop-centre l =
    map line_in l.lines.items ≡ map line_in l.fn.lines.items ++ each (centre_answers l.fn.world.history l.fn.world.topology.partitions l.fn.settler l.fn.mode l.fn.number) l.centre
