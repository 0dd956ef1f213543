use Rattle.std.proofs.Common.{◌≡◌, ◌++◌, map}
use Rattle.ov_follow.specs.Passes.{each}
use Rattle.ov_world.specs.Acts.{line_in}
use Rattle.ov_step.specs.Deeds.{IsLookup}
use Rattle.ov_step.specs.Storing.{node_stores}
use Rattle.ov_step.proofs.store.list_write.Given as goal

abbrev pub invariant-loop-centre : goal.invariant-loop-centre
invariant-loop-centre l = record {
  last : IsLookup l.fn.deeds l.last;
  lines : map line_in l.lines.items ≡ map line_in l.fn.lines.items ++ each (node_stores l.fn.number l.fn.letter l.fn.part l.fn.world.history) l.centre;
}
