use Rattle.std.proofs.Common.{◌≡◌, ◌*◌, take, pos, neg_ℤ, ◌≤ℤ◌}
use Rattle.ov_base.specs.Amount.{most}
use Rattle.ov_report.specs.Summary.{sum_of}
use Rattle.ov_report.proofs.summary.sum_of.Given as goal

abbrev pub invariant-loop-shown : goal.invariant-loop-shown
invariant-loop-shown l = record {
  sum : l.sum ≡ sum_of (take l.shown-index l.list);
  low : neg_ℤ (pos (most * l.shown-index)) ≤ℤ l.sum;
  high : l.sum ≤ℤ pos (most * l.shown-index);
}
