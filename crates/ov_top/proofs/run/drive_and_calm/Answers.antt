use Rattle.ov_step.proofs.Results.{on_any_err, on_err}
use Rattle.ov_top.proofs.Running.{part_of_calm, part_of_schedule}
use Rattle.ov_top.proofs.run.drive_and_calm.Goals as goal

pub returns-in_err-drive-clause-part : goal.returns-in_err-drive-clause-part
returns-in_err-drive-clause-part c = on_any_err c.from_residual.result (part_of_schedule c.args.schedule.now c.args.world.now c.drive.new.world c.in_err-drive.ensures.part)

pub returns-clause-part : goal.returns-clause-part
returns-clause-part c = on_err c.calm.result (λ part. part_of_calm c.args.schedule.now c.args.world.now c.drive.new.world c.calm.new.world c.in_ok-drive.ensures.driven part) c.calm.ensures.part
