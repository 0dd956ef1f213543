use Rattle.std.proofs.Common.{ap}
use Rattle.std.specs.Option.{option_map}
use Rattle.std.proofs.lemmas.Result.{IfOk-weaker}
use Rattle.ov_functor.specs.declared.command.Command.TheVariants as commands
use Rattle.ov_history.specs.Sessions.{events_of}
use Rattle.ov_gate.proofs.Begins.{command_is, ready_for}
use Rattle.ov_gate.proofs.gate.GateCore.begin_next.Goals as goal

pub returns-in-Some-Transact-clause-steps : goal.returns-in-Some-Transact-clause-steps
returns-in-Some-Transact-clause-steps c = IfOk-weaker c.draw.result _ _ (λ answer steps. λ t h actor roster is running may.
    steps t h actor may.planned is running (ready_for t c.args.roster.now h c.args.self.now.gate c.args.session c.args.seq roster may)
    (command_is c.args.roster.now c.args.self.now.gate c.args.session c.args.seq (events_of c.args.self.now.gate h) may _ c.in-Some-Transact.field-0.now (commands.Transact c.in-Some-Transact.transaction) c.command_at.ensures (ap (option_map (λ x. x.now)) c.in-Some-Transact.is) c.in-Some-Transact.field-0-is) may.next) c.draw.ensures.steps

pub returns-in-Some-Snap-clause-steps : goal.returns-in-Some-Snap-clause-steps
returns-in-Some-Snap-clause-steps c = IfOk-weaker c.look.result _ _ (λ answer steps. λ t h actor roster is running may.
    steps t h actor c.args.clock may.planned is running (ready_for t c.args.roster.now h c.args.self.now.gate c.args.session c.args.seq roster may)
    (command_is c.args.roster.now c.args.self.now.gate c.args.session c.args.seq (events_of c.args.self.now.gate h) may _ c.in-Some-Snap.field-0.now (commands.Snap c.in-Some-Snap.keys) c.command_at.ensures (ap (option_map (λ x. x.now)) c.in-Some-Snap.is) c.in-Some-Snap.field-0-is) may.next) c.look.ensures.steps
