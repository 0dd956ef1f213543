use Rattle.std.proofs.Common.{subst}
use Rattle.ov_script.specs.Written.{Adds}
use Rattle.ov_script.specs.declared.line.ScriptLine.{ScriptLine}
use Rattle.ov_functor.proofs.PartWordsAgain.{parts_positive}
use Rattle.ov_script.proofs.Adding.{do_ready}
use Rattle.ov_script.proofs.script.Script.add_do.Goals as goal

pub new-requires : goal.new-requires
new-requires c = rw c.into_vec.ensures (parts_positive c.args.parts c.requires.1)

pub add_command-requires-clause-session : goal.add_command-requires-clause-session
add_command-requires-clause-session c = (do_ready c.args.self.now c.args.session c.args.parts c.into_vec.result.items c.in-Ok.transaction c.in-Some.at c.in-Some.ensures c.into_vec.ensures c.in-Ok.ensures c.requires).declared

pub add_command-requires-clause-form : goal.add_command-requires-clause-form
add_command-requires-clause-form c = (do_ready c.args.self.now c.args.session c.args.parts c.into_vec.result.items c.in-Ok.transaction c.in-Some.at c.in-Some.ensures c.into_vec.ensures c.in-Ok.ensures c.requires).form

pub add_command-requires-clause-full : goal.add_command-requires-clause-full
add_command-requires-clause-full c = (do_ready c.args.self.now c.args.session c.args.parts c.into_vec.result.items c.in-Ok.transaction c.in-Some.at c.in-Some.ensures c.into_vec.ensures c.in-Ok.ensures c.requires).full

pub returns-in-Ok : goal.returns-in-Ok
returns-in-Ok c =
    subst (λ (line : ScriptLine). Adds c.add_command.result c.args.self.now c.add_command.new.self line) (do_ready c.args.self.now c.args.session c.args.parts c.into_vec.result.items c.in-Ok.transaction c.in-Some.at c.in-Some.ensures c.into_vec.ensures c.in-Ok.ensures c.requires).is c.add_command.ensures
