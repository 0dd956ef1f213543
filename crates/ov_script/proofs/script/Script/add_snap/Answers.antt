use Rattle.std.proofs.Common.{subst}
use Rattle.ov_script.specs.Written.{Adds}
use Rattle.ov_script.specs.declared.line.ScriptLine.{ScriptLine}
use Rattle.ov_script.proofs.Adding.{snap_ready}
use Rattle.ov_script.proofs.script.Script.add_snap.Goals as goal

pub add_command-requires-clause-session : goal.add_command-requires-clause-session
add_command-requires-clause-session c = (snap_ready c.args.self.now c.args.session c.args.keys c.as_slice.result.now c.in-Some.at c.in-Some.ensures c.as_slice.ensures c.in-None-keys_fault.ensures.none c.requires).declared

pub add_command-requires-clause-form : goal.add_command-requires-clause-form
add_command-requires-clause-form c = (snap_ready c.args.self.now c.args.session c.args.keys c.as_slice.result.now c.in-Some.at c.in-Some.ensures c.as_slice.ensures c.in-None-keys_fault.ensures.none c.requires).form

pub add_command-requires-clause-full : goal.add_command-requires-clause-full
add_command-requires-clause-full c = (snap_ready c.args.self.now c.args.session c.args.keys c.as_slice.result.now c.in-Some.at c.in-Some.ensures c.as_slice.ensures c.in-None-keys_fault.ensures.none c.requires).full

pub returns-in-None-keys_fault : goal.returns-in-None-keys_fault
returns-in-None-keys_fault c =
    subst (λ (line : ScriptLine). Adds c.add_command.result c.args.self.now c.add_command.new.self line) (snap_ready c.args.self.now c.args.session c.args.keys c.as_slice.result.now c.in-Some.at c.in-Some.ensures c.as_slice.ensures c.in-None-keys_fault.ensures.none c.requires).is c.add_command.ensures
