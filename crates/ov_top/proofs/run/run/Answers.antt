use Rattle.ov_step.proofs.Results.{on_err}
use Rattle.ov_top.specs.Ending.{run_of}
use Rattle.ov_top.proofs.Running.{tells_part, tells_right}
use Rattle.ov_top.proofs.run.run.Goals as goal

pub returns-clause-part : goal.returns-clause-part
returns-clause-part c =
    on_err c.drive_and_calm-done.result
    (λ part. tells_part c.tell.new.story c.args.topology c.args.script (run_of c.args.topology c.args.script c.args.schedule.now)
    c.drive_and_calm-done.new.world (record { topology_is = c.tell.ensures.topology; script_is = c.tell.ensures.script; entries_are = c.tell.ensures.entries })
    (rw c.in_ok-world.ensures.start at part))
    c.drive_and_calm-done.ensures.part

pub returns-clause-right : goal.returns-clause-right
returns-clause-right c =
    tells_right c.tell.new.story c.drive_and_calm-done.new.world.topology c.drive_and_calm-done.new.world.script c.drive_and_calm-done.new.world.history
    (record { topology_is = c.tell.ensures.topology; script_is = c.tell.ensures.script; entries_are = c.tell.ensures.entries }) c.tell.ensures.holds
