use Rattle.std.proofs.Common.{◌≤◌, ◌-◌, length}
use Rattle.ov_gate.specs.Tracker.{Rises, earlier}
use Rattle.ov_gate.proofs.tracker.earlier.Given as goal

abbrev pub invariant-loop-low : goal.invariant-loop-low
invariant-loop-low l = record {
  order : l.low ≤ l.high;
  within : l.high ≤ length l.items;
  above : Rises l.items → l.low ≤ earlier l.version l.items;
  below : Rises l.items → earlier l.version l.items ≤ l.high;
}

abbrev pub decreases-loop-low : goal.decreases-loop-low
decreases-loop-low l = l.high - l.low
