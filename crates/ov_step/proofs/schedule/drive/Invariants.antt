use Rattle.std.proofs.Common.{take}
use Rattle.ov_step.specs.Followed.{Driven}
use Rattle.ov_step.proofs.schedule.drive.Given as goal

abbrev pub invariant-loop-step : goal.invariant-loop-step
invariant-loop-step l = Driven (take l.step-index l.schedule) l.fn.world l.world
