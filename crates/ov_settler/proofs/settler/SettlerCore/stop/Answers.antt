use Rattle.ov_settler.proofs.Calls.{stop_steps}
use Rattle.ov_settler.proofs.settler.SettlerCore.stop.Goals as goal

pub returns-clause-steps : goal.returns-clause-steps
returns-clause-steps c = rw (← c.self.view_is, c.entry.ensures) (λ t h actor is. stop_steps t h actor _ is c.if-self.false)
