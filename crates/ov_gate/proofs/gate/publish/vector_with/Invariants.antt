use Rattle.std.proofs.Common.{◌≡◌, ◌==◌, ℕ, ◌<◌, ◌≤◌, length}
use Rattle.std.specs.Prelude.{if◌then◌else◌}
use Rattle.ov_gossip.specs.Marks.{no_marks, mark_at}
use Rattle.ov_gate.proofs.gate.publish.vector_with.Given as goal

abbrev pub invariant-loop-other : goal.invariant-loop-other
invariant-loop-other l = record {
  width : length l.made ≡ length l.vector;
  marks : (k : ℕ) → k < l.other → mark_at l.made k ≡ (if k == l.gate then l.own else mark_at l.vector k);
  rest : (k : ℕ) → l.other ≤ k → mark_at l.made k ≡ no_marks;
}
