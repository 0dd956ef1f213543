use Rattle.std.proofs.Common.{◌+◌, ◌-◌, ◌<◌, ◌≤◌, length}
use Rattle.ov_lists.specs.Parts.{AreSome, start, listed}
use Rattle.ov_lists.specs.Places.{AreBefore, AreBehind}
use Rattle.ov_lists.proofs.search.block_behind.Given as goal

-- the first entries of the blocks below the one end stand before, and what is from the other end on does not
abbrev pub invariant-loop-low : goal.invariant-loop-low
invariant-loop-low g l = record {
  order : l.low ≤ l.high;
  within : l.high ≤ length l.blocks.parts;
  some : AreSome l.blocks.parts;
  before : 0 < l.low → AreBefore l.key l.number (listed l.items l.blocks.parts) (start l.blocks.parts (l.low - 1) + 1);
  behind : AreBehind l.key l.number (listed l.items l.blocks.parts) (start l.blocks.parts l.high);
}

abbrev pub decreases-loop-low : goal.decreases-loop-low
decreases-loop-low g l = l.high - l.low
