use Rattle.std.proofs.Common.{◌≡◌}
use Rattle.ov_make.specs.Progress.{holding}
use Rattle.ov_make.proofs.Fitting.{declared}
use Rattle.ov_make.proofs.waits.add_sessions.Given as goal

abbrev pub invariant-loop-session : goal.invariant-loop-session
invariant-loop-session l = l.script ≡ holding (declared l.session)
