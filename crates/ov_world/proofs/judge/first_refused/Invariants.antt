use Rattle.std.proofs.Common.{length, take, ◌-◌, ◌≤◌, reverse}
use Rattle.ov_world.specs.World.{Keeps, setting_by}
use Rattle.ov_world.proofs.judge.first_refused.Given as goal

abbrev pub invariant-loop-index : goal.invariant-loop-index
invariant-loop-index l = record {
  within : l.index ≤ length l.entries;
  keeps : Keeps (setting_by l.topology l.script) (reverse (take l.index l.entries)) l.cores.items l.last;
}

abbrev pub decreases-loop-index : goal.decreases-loop-index
decreases-loop-index l = length l.entries - l.index
