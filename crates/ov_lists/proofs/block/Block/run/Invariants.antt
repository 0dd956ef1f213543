use Rattle.std.proofs.Common.{◌≡◌, ◌+◌, ◌-◌, ◌≤◌, length}
use Rattle.std.specs.List.{range_with_len}
use Rattle.ov_lists.proofs.block.Block.run.Given as goal

-- the places so far
abbrev pub invariant-loop-place : goal.invariant-loop-place
invariant-loop-place l = record {
  low : l.start ≤ l.place;
  high : l.place ≤ l.start + l.size;
  long : length l.places.items + l.start ≡ l.place;
  places : l.places.items ≡ range_with_len l.start (l.place - l.start);
}
