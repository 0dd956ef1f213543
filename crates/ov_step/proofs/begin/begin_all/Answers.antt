use Rattle.std.proofs.Common.{◌∙◌, length}
use Rattle.ov_script.specs.Sessions.{roster_of}
use Rattle.ov_world.specs.Acts.{line_in}
use Rattle.ov_world.specs.World.{setting_of}
use Rattle.ov_step.proofs.Beginning.{begin, begin_more}
use Rattle.ov_step.proofs.Passing.{in_part}
use Rattle.ov_step.proofs.begin.begin_all.Goals as goal

pub returns-in-Err-clause-part : goal.returns-in-Err-clause-part
returns-in-Err-clause-part c =
    in_part (begin (setting_of c.args.world.now) c.args.world.now.history) c.loop-session.session (length (roster_of c.args.world.now.script.lines).sessions) c.args.world.now c.follow_line.new.self (rw (c.len-session-end.ensures, c.roster.ensures.value, c.script.ensures) at c.loop-session.auto.session-end) (c.in-Err.ensures.err ∙ c.loop-session.invariant)

pub loop-session-preserved : goal.loop-session-preserved
loop-session-preserved c =
    begin_more c.loop-session.session (line_in c.begin_line-line.result) c.args.world.now c.loop-session.world c.follow_line.new.self (rw (c.roster-in-loop-session.ensures.value, c.script-in-loop-session.ensures, c.loop-session.invariant) at c.begin_line-line.ensures) c.loop-session.invariant c.in-Ok.ensures.follow
