use Rattle.std.proofs.Common.{◌∙◌}
use Rattle.ov_step.proofs.Following.{followed_next, followed_some}
use Rattle.ov_step.proofs.lines.follow_all.Goals as goal

pub returns-in-Err-clause-part : goal.returns-in-Err-clause-part
returns-in-Err-clause-part c =
    followed_some c.args.lines.now c.loop-line.line-index c.args.world.now c.follow_line.new.self (c.in-Err.ensures.err ∙ c.loop-line.invariant)

pub loop-line-preserved : goal.loop-line-preserved
loop-line-preserved c =
    followed_next c.args.lines.now c.loop-line.line-index _ c.args.world.now c.loop-line.world c.follow_line.new.self c.loop-line-test.true c.loop-line.invariant c.in-Ok.ensures.follow
