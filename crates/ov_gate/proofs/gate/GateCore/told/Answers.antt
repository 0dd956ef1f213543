use Rattle.ov_gate.proofs.Calls.{told_steps}
use Rattle.ov_gate.proofs.gate.GateCore.told.Goals as goal

pub returns-clause-steps : goal.returns-clause-steps
returns-clause-steps c = rw (← c.self.view_is, c.in-Told.is, c.entry.ensures) (λ t h actor is there sound. told_steps t h actor _ c.args.place c.in-Told.session c.in-Told.seq c.in-Told.gate c.tell.new.sessions is c.if-self.false there sound c.if-gate-self.false c.tell.ensures)
