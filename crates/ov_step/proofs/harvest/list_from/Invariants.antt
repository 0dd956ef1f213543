use Rattle.std.proofs.Common.{◌≡◌, ◌++◌, map}
use Rattle.std.specs.Prelude.{reverse, take}
use Rattle.ov_follow.specs.Passes.{gather}
use Rattle.ov_world.specs.Acts.{line_in}
use Rattle.ov_step.proofs.Listing.{takings}
use Rattle.ov_step.proofs.harvest.list_from.Given as goal

abbrev pub invariant-loop-place : goal.invariant-loop-place
invariant-loop-place l =
    map line_in l.lines.items ≡ map line_in l.fn.lines.items ++ gather (takings l.fn.world.history l.fn.settler) (reverse (take l.place (reverse l.fn.world.history)))
