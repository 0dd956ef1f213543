use Rattle.std.proofs.Common.{◌≡◌, ℕ, ◌<◌, false}
use Rattle.ov_gate.specs.Tracked.{few_acks}
use Rattle.ov_gate.proofs.tracked.Tracked.some_quorum_lacks.Given as goal

abbrev pub invariant-loop-part : goal.invariant-loop-part
invariant-loop-part l = (k : ℕ) → k < l.part → few_acks l.topology l.self.touched l.self.acked k ≡ false
