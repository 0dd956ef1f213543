use Rattle.std.proofs.Common.{map, take}
use Rattle.ov_world.specs.Acts.{line_in}
use Rattle.ov_step.specs.Followed.{Followed}
use Rattle.ov_step.proofs.lines.follow_all.Given as goal

abbrev pub invariant-loop-line : goal.invariant-loop-line
invariant-loop-line l = Followed (map line_in (take l.line-index l.lines)) l.fn.world l.world
