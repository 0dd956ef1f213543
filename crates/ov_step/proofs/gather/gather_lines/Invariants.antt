use Rattle.std.proofs.Common.{◌≡◌, map, take}
use Rattle.std.specs.Prelude.{reverse}
use Rattle.ov_follow.specs.Passes.{gather}
use Rattle.ov_world.specs.Acts.{line_in}
use Rattle.ov_world.specs.World.{setting_of}
use Rattle.ov_step.specs.Gathered.{IsClear}
use Rattle.ov_step.proofs.gather.gather_lines.Given as goal

abbrev pub invariant-loop-place : goal.invariant-loop-place
invariant-loop-place g l = record {
  lines : map line_in l.lines.items ≡ gather (g.P.EntryPass.lister (setting_of l.world) l.world.history) (reverse (take l.place l.entries));
  clear : IsClear g.P.EntryPass.lister (setting_of l.world) l.world.history l.clear;
}
