use Rattle.std.proofs.Common.{reverse}
use Rattle.ov_script.specs.Sessions.{roster_of}
use Rattle.ov_report.proofs.Lines.{one_more}
use Rattle.ov_report.proofs.report.lines_of.Goals as goal

pub loop-at-preserved : goal.loop-at-preserved
loop-at-preserved c =
    let line = c.line_of.ensures (reverse c.args.entries.now) c.in_ok-replies.ensures in
    rw c.in_ok-push.ensures.items
    (one_more (roster_of c.args.script.now.lines) (reverse c.args.entries.now) c.order-at-items.result.now c.loop-at.at-index _ c.loop-at.lines.items c.line_of.result
    c.loop-at-test.true c.loop-at.invariant (rw c.roster.ensures.value at line))
