use Rattle.std.proofs.Common.{◌≡◌, reverse, take}
use Rattle.ov_report.specs.Report.{reply_to}
use Rattle.ov_report.proofs.summary.reply_to.Given as goal

abbrev pub invariant-loop-place : goal.invariant-loop-place
invariant-loop-place l = reply_to l.at.session l.at.seq (reverse l.entries) ≡ reply_to l.at.session l.at.seq (reverse (take l.place l.entries))
