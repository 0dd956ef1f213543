use Rattle.std.proofs.Common.{[], refl}
use Rattle.ov_io.proofs.Sinks.{wrote_none}
use Rattle.ov_top.specs.Ending.{summed}
use Rattle.ov_top.proofs.Endings.{nothing_is_part}
use Rattle.ov_top.proofs.Steps.{ends_without_memory}
use Rattle.ov_top.proofs.make.sum_up.Goals as goal

pub returns-in_default-clause-came : goal.returns-in_default-clause-came
returns-in_default-clause-came g c =
    ends_without_memory (summed c.args.topology c.args.script) 9 c.args.story.now _ _ (rw c.requires.empty (nothing_is_part _)) refl (wrote_none (g.K.Sink.written c.args.out.now) [])

pub returns-in-Err-clause-came : goal.returns-in-Err-clause-came
returns-in-Err-clause-came g c =
    ends_without_memory (summed c.args.topology c.args.script) 9 c.run.new.story _ _ (rw c.in-Ok.ensures at c.in-Err.ensures.part) refl (wrote_none (g.K.Sink.written c.args.out.now) [])
