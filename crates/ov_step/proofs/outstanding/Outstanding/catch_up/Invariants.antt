use Rattle.std.proofs.Common.{◌≡◌, ◌≤◌, take}
use Rattle.std.specs.Prelude.{reverse}
use Rattle.ov_world.specs.World.{setting_of}
use Rattle.ov_step.specs.Outstanding.{IsOutstanding}
use Rattle.ov_step.proofs.outstanding.Outstanding.catch_up.Given as goal

abbrev pub invariant-loop-place : goal.invariant-loop-place
invariant-loop-place l = record {
  place : l.self.read ≡ l.place;
  fewer : l.self.replies ≤ l.self.read;
  kept : IsOutstanding (setting_of l.fn.world) (reverse (take l.fn.self.read (reverse l.fn.world.history))) l.fn.self
      → IsOutstanding (setting_of l.fn.world) (reverse (take l.place (reverse l.fn.world.history))) l.self;
}
