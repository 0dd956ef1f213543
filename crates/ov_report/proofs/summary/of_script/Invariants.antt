use Rattle.std.proofs.Common.{◌≡◌, ◌≤◌, take}
use Rattle.ov_report.specs.Summary.{is_aborted, is_done, is_snapshot, replies_given}
use Rattle.ov_report.proofs.summary.of_script.Given as goal

abbrev pub invariant-loop-entry : goal.invariant-loop-entry
invariant-loop-entry l = record {
  commands : l.summary.commands ≡ l.initial.summary.commands;
  done : l.summary.done ≡ replies_given is_done (take l.entry-index l.entries);
  aborted : l.summary.aborted ≡ replies_given is_aborted (take l.entry-index l.entries);
  snapshots : l.summary.snapshots ≡ replies_given is_snapshot (take l.entry-index l.entries);
  few : (l.summary.done ≤ l.entry-index) × (l.summary.aborted ≤ l.entry-index) × (l.summary.snapshots ≤ l.entry-index);
  sum : l.summary.sum ≡ l.initial.summary.sum;
}
