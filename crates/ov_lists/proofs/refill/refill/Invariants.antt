use Rattle.std.proofs.Common.{◌≡◌, ◌+◌, ◌-◌, ◌*◌, ◌<◌, ◌≤◌, length}
use Rattle.std.specs.List.{range_with_len}
use Rattle.ov_lists.specs.Parts.{flat}
use Rattle.ov_lists.proofs.refill.refill.Given as goal

-- so many places are filed, in full blocks but for the last
abbrev pub invariant-loop-done : goal.invariant-loop-done
invariant-loop-done l = record {
  number : l.number ≡ length l.blocks.parts;
  within : l.done ≤ l.count;
  full : l.done < l.count → l.done ≡ 32 * l.number;
  few : 32 * l.number < l.count + 32;
  places : flat l.blocks.parts ≡ range_with_len 0 l.done;
  spare : l.fn.blocks.spare + length l.fn.blocks.parts ≤ l.blocks.spare + l.number;
}

abbrev pub decreases-loop-done : goal.decreases-loop-done
decreases-loop-done l = l.count - l.done
