use Rattle.std.proofs.Common.{◌≡◌, map}
use Rattle.ov_follow.specs.Passes.{each}
use Rattle.ov_world.specs.Acts.{line_in}
use Rattle.ov_step.proofs.Listing.{taken}
use Rattle.ov_step.proofs.harvest.list_takes.Given as goal

abbrev pub invariant-loop-settler : goal.invariant-loop-settler
invariant-loop-settler l = map line_in l.lines.items ≡ each (taken l.fn.world.history) l.settler
