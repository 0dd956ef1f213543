use Rattle.std.proofs.Common.{sym, subst}
use Rattle.ov_script.specs.Line.{IsLine}
use Rattle.ov_script.specs.Written.{Adds}
use Rattle.ov_script.specs.declared.line.ScriptLine.{ScriptLine}
use Rattle.ov_script.proofs.Adding.{declared_at, wait_line}
use Rattle.ov_script.proofs.script.Script.add_after.Goals as goal

pub add_wait-requires-clause-session : goal.add_wait-requires-clause-session
add_wait-requires-clause-session c = declared_at c.args.self.now.lines c.args.session c.in-Some.at c.in-Some.ensures

pub add_wait-requires-clause-other : goal.add_wait-requires-clause-other
add_wait-requires-clause-other c = declared_at c.args.self.now.lines c.args.other c.in-Some-session.waited c.in-Some-session.ensures

pub add_wait-requires-clause-form : goal.add_wait-requires-clause-form
add_wait-requires-clause-form c =
    subst IsLine (sym (wait_line c.args.self.now.lines c.args.session c.args.other c.in-Some.at c.in-Some-session.waited c.args.seq c.in-Some.ensures c.in-Some-session.ensures)) c.requires

pub returns-in-Some-session : goal.returns-in-Some-session
returns-in-Some-session c =
    subst (λ (line : ScriptLine). Adds c.add_wait.result c.args.self.now c.add_wait.new.self line)
    (wait_line c.args.self.now.lines c.args.session c.args.other c.in-Some.at c.in-Some-session.waited c.args.seq c.in-Some.ensures c.in-Some-session.ensures) c.add_wait.ensures
