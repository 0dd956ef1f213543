use Rattle.std.proofs.Common.{sym, ◌∙◌}
use Rattle.ov_gate.proofs.Calls.{acked_steps}
use Rattle.ov_gate.proofs.gate.GateCore.acked.Goals as goal

pub returns-clause-steps : goal.returns-clause-steps
returns-clause-steps c = rw (← c.self.view_is, c.in-Ack.is, c.entry.ensures) (λ t h actor is there sound. let own = sym c.gate.ensures ∙ c.if-gate-self.false in acked_steps t h actor _ c.args.place c.in-Ack.version c.in-Ack.centre c.in-Ack.part c.take_ack.new.self is c.if-self.false there (sound own) own c.take_ack.ensures)
