use Rattle.std.proofs.Common.{◌≡◌, ◌-◌}
use Rattle.ov_make.specs.Progress.{with_lines}
use Rattle.ov_make.proofs.Growing.{awaited}
use Rattle.ov_make.proofs.waits.add_last_waits.Given as goal

abbrev pub invariant-loop-session : goal.invariant-loop-session
invariant-loop-session l = l.script ≡ with_lines l.initial.script (awaited l.initial.script.lines (l.session - 1))
