use Rattle.std.proofs.Common.{◌≡◌, ℕ, ◌<◌, false}
use Rattle.ov_gate.specs.Tracked.{some_copy_lacks}
use Rattle.ov_gate.proofs.tracked.Tracked.some_copy_lacks.Given as goal

abbrev pub invariant-loop-part : goal.invariant-loop-part
invariant-loop-part l = (k : ℕ) → k < l.part → some_copy_lacks l.topology l.self.touched l.self.acked k ≡ false
