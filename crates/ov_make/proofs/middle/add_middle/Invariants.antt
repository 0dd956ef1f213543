use Rattle.std.proofs.Common.{◌≡◌}
use Rattle.ov_make.specs.Made.{number_behind, middle_lines}
use Rattle.ov_make.specs.Progress.{with_lines}
use Rattle.ov_make.proofs.middle.add_middle.Given as goal

abbrev pub invariant-loop-done : goal.invariant-loop-done
invariant-loop-done l = record {
  chosen : l.chosen ≡ number_behind l.number l.done;
  script : l.script ≡ with_lines l.initial.script (middle_lines l.number l.done);
}
