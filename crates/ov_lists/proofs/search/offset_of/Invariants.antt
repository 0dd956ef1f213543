use Rattle.std.proofs.Common.{◌-◌, ◌<◌, ◌≤◌, length}
use Rattle.ov_lists.specs.Parts.{part_at, place_in, listed}
use Rattle.ov_lists.specs.Places.{AreBefore, AreBehind}
use Rattle.ov_lists.proofs.search.offset_of.Given as goal

-- what is below the one end stands before, and what is from the other end on does not
abbrev pub invariant-loop-low : goal.invariant-loop-low
invariant-loop-low g l = record {
  some : 0 < l.low;
  order : l.low ≤ l.high;
  within : l.high ≤ length (part_at l.blocks.parts l.block);
  before : AreBefore l.key l.number (listed l.items l.blocks.parts) (place_in l.blocks.parts l.block l.low);
  behind : AreBehind l.key l.number (listed l.items l.blocks.parts) (place_in l.blocks.parts l.block l.high);
}

abbrev pub decreases-loop-low : goal.decreases-loop-low
decreases-loop-low g l = l.high - l.low
