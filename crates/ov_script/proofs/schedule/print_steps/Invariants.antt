use Rattle.std.proofs.Common.{◌≡◌, ◌++◌, take}
use Rattle.ov_script.specs.Schedule.{schedule_text}
use Rattle.ov_script.proofs.schedule.print_steps.Given as goal

abbrev pub invariant-loop-step : goal.invariant-loop-step
invariant-loop-step l = l.text.items ≡ l.initial.text.items ++ schedule_text (take l.step-index l.steps)
