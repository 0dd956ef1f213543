use Rattle.std.proofs.Common.{◌≡◌, ℕ, ◌<◌, true}
use Rattle.ov_gate.specs.Tracked.{is_acked}
use Rattle.ov_gate.proofs.tracked.Tracked.is_acked_by_all.Given as goal

abbrev pub invariant-loop-centre : goal.invariant-loop-centre
invariant-loop-centre l = (k : ℕ) → k < l.centre → is_acked l.self.acked l.part k ≡ true
