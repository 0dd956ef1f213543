use Rattle.ov_script.proofs.Schedules.{schedule_takes}
use Rattle.ov_script.proofs.schedule.Schedule.read.Goals as goal

pub invariant_of-result : goal.invariant_of-result
invariant_of-result c = (schedule_takes c.args.bytes.now c.in-Ok.steps c.in-Ok.ensures).0

pub returns-in-Ok-clause-spelled : goal.returns-in-Ok-clause-spelled
returns-in-Ok-clause-spelled c = (schedule_takes c.args.bytes.now c.in-Ok.steps c.in-Ok.ensures).1
