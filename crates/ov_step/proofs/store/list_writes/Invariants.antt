use Rattle.std.proofs.Common.{◌≡◌, ℕ, ◌≤◌, ◌++◌, length, map}
use Rattle.ov_event.specs.Letters.{touched_below}
use Rattle.ov_world.specs.Acts.{line_in}
use Rattle.ov_world.specs.World.{setting_of}
use Rattle.ov_step.proofs.Storing.{below}
use Rattle.ov_step.proofs.store.list_writes.Given as goal

abbrev pub invariant-loop-part : goal.invariant-loop-part
invariant-loop-part l = record {
  letter : l.letter ≡ length (touched_below l.fn.world.topology l.fn.parts l.part);
  few : l.letter ≤ l.part;
  lines : (version : ℕ) → map line_in l.lines.items ≡ map line_in l.fn.lines.items ++ below (setting_of l.fn.world) l.fn.world.history l.fn.number version l.fn.parts l.part;
}
