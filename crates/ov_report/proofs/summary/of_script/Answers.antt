use Rattle.std.proofs.Common.{arith}
use Rattle.std.proofs.lemmas.Grind.{common_steps}
use Rattle.ov_report.specs.Summary.{is_aborted, is_done, is_snapshot}
use Rattle.ov_report.proofs.Counts.{given_more, none_given}
use Rattle.ov_report.proofs.summary.of_script.Goals.{in-Replied+in-Done, in-Replied+in-Aborted, in-Replied+in-Snap, in_default}
use Rattle.ov_report.proofs.summary.of_script.Goals as goal

pub loop-entry-preserved : goal.loop-entry-preserved
loop-entry-preserved c =
    let done = given_more is_done c.args.entries.now c.loop-entry.entry-index _ c.entry-item.result c.loop-entry-test.true c.entry-item.is in
    let aborted = given_more is_aborted c.args.entries.now c.loop-entry.entry-index _ c.entry-item.result c.loop-entry-test.true c.entry-item.is in
    let snapshots = given_more is_snapshot c.args.entries.now c.loop-entry.entry-index _ c.entry-item.result c.loop-entry-test.true c.entry-item.is in
    rw (done, aborted, snapshots) (elim c.match-entry.branch [
      | in-Replied+in-Done w ↦ rw (w.summary-is, w.in-Replied.is, w.in-Done.is) (grind (arith, common_steps))
      | in-Replied+in-Aborted w ↦ rw (w.summary-is, w.in-Replied.is, w.in-Aborted.is) (grind (arith, common_steps))
      | in-Replied+in-Snap w ↦ rw (w.summary-is, w.in-Replied.is, w.in-Snap.is) (grind (arith, common_steps))
      | in_default w ↦
          let none = none_given c.entry-item.result.kind w.in_default.not-Replied in
          rw (w.summary-is, none is_done, none is_aborted, none is_snapshot) (grind (arith, common_steps))
    ])
