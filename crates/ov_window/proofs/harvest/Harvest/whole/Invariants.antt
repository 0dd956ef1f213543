use Rattle.std.proofs.Common.{ℕ, ◌<◌}
use Rattle.ov_window.specs.Harvest.{IsComplete}
use Rattle.ov_window.proofs.harvest.Harvest.whole.Given as goal

-- the partitions so far gave answers enough
abbrev pub invariant-loop-part : goal.invariant-loop-part
invariant-loop-part l = (part : ℕ) → part < l.part → IsComplete l.self part
