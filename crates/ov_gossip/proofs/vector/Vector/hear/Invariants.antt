use Rattle.std.proofs.Common.{◌≡◌, ℕ, ◌<◌, ◌≤◌, length}
use Rattle.ov_gossip.specs.Marks.{greater, mark_at}
use Rattle.ov_gossip.proofs.vector.Vector.hear.Given as goal

abbrev pub invariant-loop-gate : goal.invariant-loop-gate
invariant-loop-gate l = record {
  width : length l.self ≡ length l.fn.self;
  marks : (k : ℕ) → k < l.gate → mark_at l.self k ≡ greater (mark_at l.fn.self k) (mark_at l.other k);
  rest : (k : ℕ) → l.gate ≤ k → mark_at l.self k ≡ mark_at l.fn.self k;
}
