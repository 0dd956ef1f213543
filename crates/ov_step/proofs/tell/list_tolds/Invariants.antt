use Rattle.std.proofs.Common.{◌≡◌, ◌++◌, map}
use Rattle.ov_follow.specs.Passes.{each}
use Rattle.ov_world.specs.Acts.{line_in}
use Rattle.ov_step.specs.Deeds.{IsLookup}
use Rattle.ov_step.specs.Telling.{told_line}
use Rattle.ov_step.proofs.tell.list_tolds.Given as goal

abbrev pub invariant-loop-gate : goal.invariant-loop-gate
invariant-loop-gate l = record {
  last : IsLookup l.fn.deeds l.last;
  lines : map line_in l.lines.items ≡ map line_in l.fn.lines.items ++ each (told_line l.world.history l.replied) l.gate;
}
