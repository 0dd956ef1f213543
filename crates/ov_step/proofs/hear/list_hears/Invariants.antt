use Rattle.std.proofs.Common.{◌≡◌, map}
use Rattle.ov_follow.specs.Passes.{each}
use Rattle.ov_world.specs.Acts.{line_in}
use Rattle.ov_world.specs.World.{setting_of}
use Rattle.ov_step.proofs.Listing.{heard}
use Rattle.ov_step.proofs.hear.list_hears.Given as goal

abbrev pub invariant-loop-gate : goal.invariant-loop-gate
invariant-loop-gate l = map line_in l.lines.items ≡ each (heard (setting_of l.fn.world) l.fn.world.history) l.gate
