use Rattle.std.proofs.Common.{[], refl}
use Rattle.ov_io.proofs.Sinks.{wrote_none}
use Rattle.ov_top.specs.Ending.{done, run_of}
use Rattle.ov_top.proofs.Running.{run_lines}
use Rattle.ov_top.proofs.Steps.{ends_done, ends_without_memory}
use Rattle.ov_top.proofs.perform.follow.Goals as goal

pub put_history-requires : goal.put_history-requires
put_history-requires g c =
    run_lines c.run.new.story c.args.topology c.args.script (run_of c.args.topology c.args.script c.args.schedule.now) c.in-Ok.ensures.done c.requires.form c.run.ensures.right c.run.ensures.short

pub returns-in-Err-clause-came : goal.returns-in-Err-clause-came
returns-in-Err-clause-came g c =
    ends_without_memory (done c.args.journal c.args.topology c.args.script c.args.schedule.now) 9 c.run.new.story _ _ c.in-Err.ensures.part refl (wrote_none (g.K.Sink.written c.args.out.now) [])

pub returns-in-Ok-clause-came : goal.returns-in-Ok-clause-came
returns-in-Ok-clause-came g c =
    ends_done c.args.journal c.args.topology c.args.script c.args.schedule.now c.run.new.story c.put_history.result (g.K.Sink.faults c.args.out.now) (g.K.Sink.faults c.put_history.new.out) _ _
    c.requires.form c.in-Ok.ensures.done c.put_history.ensures
