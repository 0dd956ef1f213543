use Rattle.std.proofs.Common.{◌≡◌, ◌-◌, ◌≤◌, length, map, take, filter}
use Rattle.ov_lists.specs.Entries.{is_inside, shown}
use Rattle.ov_lists.specs.Parts.{place_in, listed, IsAt}
use Rattle.ov_lists.proofs.window.inside.Given as goal

-- what was found is what lies inside before the position
abbrev pub invariant-loop-at : goal.invariant-loop-at
invariant-loop-at g l = record {
  at : IsAt l.blocks.parts l.at.block l.at.offset;
  within : place_in l.blocks.parts l.at.block l.at.offset ≤ length (listed l.items l.blocks.parts);
  found : map shown l.found.items ≡ filter (is_inside l.from l.below) (take (place_in l.blocks.parts l.at.block l.at.offset) (listed l.items l.blocks.parts));
}

abbrev pub decreases-loop-at : goal.decreases-loop-at
decreases-loop-at g l = length (listed l.items l.blocks.parts) - place_in l.blocks.parts l.at.block l.at.offset
