use Rattle.std.proofs.Common.{◌≡◌, map}
use Rattle.ov_follow.specs.Passes.{each}
use Rattle.ov_world.specs.Acts.{line_in}
use Rattle.ov_world.specs.World.{setting_of}
use Rattle.ov_step.proofs.Listing.{answered}
use Rattle.ov_step.proofs.answer.list_answers.Given as goal

abbrev pub invariant-loop-settler : goal.invariant-loop-settler
invariant-loop-settler l = map line_in l.lines.items ≡ each (answered (setting_of l.fn.world) l.fn.world.history) l.settler
