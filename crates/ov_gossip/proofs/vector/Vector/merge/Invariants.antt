use Rattle.std.proofs.Common.{◌≡◌, ◌<◌, ◌≤◌, ℕ, length}
use Rattle.ov_gossip.specs.Marks.{mark_at, greater}
use Rattle.ov_gossip.proofs.vector.Vector.merge.Given as goal

abbrev pub invariant-loop-gate : goal.invariant-loop-gate
invariant-loop-gate l = record {
  count : length l.self ≡ length l.fn.self;
  merged : (g : ℕ) → g < l.gate → mark_at l.self g ≡ greater (mark_at l.fn.self g) (mark_at l.other g);
  left : (g : ℕ) → l.gate ≤ g → mark_at l.self g ≡ mark_at l.fn.self g;
}
