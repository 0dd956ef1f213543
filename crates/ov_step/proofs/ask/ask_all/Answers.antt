use Rattle.std.proofs.Common.{◌∙◌}
use Rattle.ov_world.specs.World.{setting_of}
use Rattle.ov_step.proofs.Asking.{question, question_more}
use Rattle.ov_step.proofs.Passing.{in_part}
use Rattle.ov_step.proofs.ask.ask_all.Goals as goal

pub returns-in-Err-clause-part : goal.returns-in-Err-clause-part
returns-in-Err-clause-part c =
    in_part (question (setting_of c.args.world.now) c.args.world.now.history) c.loop-settler.settler c.args.world.now.topology.centres c.args.world.now c.follow_line.new.self (rw (c.centres-settler-end.ensures.value, c.topology.ensures) at c.loop-settler.auto.settler-end) (c.in-Err.ensures.err ∙ c.loop-settler.invariant)

pub loop-settler-preserved : goal.loop-settler-preserved
loop-settler-preserved c = question_more c.loop-settler.settler c.args.world.now c.loop-settler.world c.follow_line.new.self c.loop-settler.invariant c.in-Ok.ensures.follow
