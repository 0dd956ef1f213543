use Rattle.ov_script.proofs.Schedules.{schedule_again}
use Rattle.ov_script.proofs.schedule.Schedule.print_to.Goals as goal

pub returns-clause-again : goal.returns-clause-again
returns-clause-again c = rw (← c.self.view_is) (schedule_again c.self.inside.steps c.self.invariant)
