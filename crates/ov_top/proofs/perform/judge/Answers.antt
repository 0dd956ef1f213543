use Rattle.std.proofs.Common.{[], refl}
use Rattle.ov_io.proofs.Sinks.{wrote_none}
use Rattle.ov_journal.proofs.Judging.{some_verdict}
use Rattle.ov_world.specs.World.{setting_by}
use Rattle.ov_top.specs.Ending.{judged}
use Rattle.ov_top.proofs.Endings.{nothing_is_part}
use Rattle.ov_top.proofs.Running.{judged_right}
use Rattle.ov_top.proofs.Steps.{ends_without_memory}
use Rattle.ov_top.proofs.perform.judge.Goals as goal

pub returns-in-Err-clause-came : goal.returns-in-Err-clause-came
returns-in-Err-clause-came g c =
    let some = some_verdict (setting_by c.args.topology c.args.script) c.args.entries c.requires.shape in
    record {
      verdict = some.0;
      right = some.1;
      came = ends_without_memory (judged c.args.topology c.args.script c.args.entries some.0) 9 c.args.story.now _ _ (rw c.requires.empty (nothing_is_part _)) refl
          (wrote_none (g.K.Sink.written c.args.out.now) []);
    }

pub returns-in-Ok-clause-right : goal.returns-in-Ok-clause-right
returns-in-Ok-clause-right g c = λ zero.
    judged_right c.args.topology c.args.script c.args.entries c.in-Ok.verdict c.put_verdict.result c.requires.shape (rw c.as_slice.ensures at c.in-Ok.ensures) (λ eight nine. (c.put_verdict.ensures.whole eight nine).0) zero
