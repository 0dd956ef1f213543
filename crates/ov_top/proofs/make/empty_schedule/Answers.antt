use Rattle.std.proofs.Common.{◌≡◌, List, [], Result, Ok}
use Rattle.ov_base.specs.Lines.{Fault, read_from}
use Rattle.ov_script.specs.declared.fault.ScheduleFault.{ScheduleFault}
use Rattle.ov_script.specs.declared.step.Step.{Step}
use Rattle.ov_top.proofs.make.empty_schedule.Goals as goal

pub returns-in-Ok : goal.returns-in-Ok
unfolding read_from
returns-in-Ok c = let both : ◌≡◌ {A = Result (List Step) (Fault ScheduleFault)} (Ok []) (Ok c.in-Ok.schedule) = c.in-Ok.ensures.exact in cc
