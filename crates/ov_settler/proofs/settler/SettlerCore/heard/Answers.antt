use Rattle.ov_settler.proofs.Calls.{heard_steps}
use Rattle.ov_settler.proofs.settler.SettlerCore.heard.Goals as goal

pub returns-clause-steps : goal.returns-clause-steps
returns-clause-steps c = rw (← c.self.view_is, c.in-Gossip.is, c.entry.ensures) (λ t h actor is there. heard_steps t h actor _ c.args.place c.in-Gossip.gate c.in-Gossip.vector c.hear.new.self is c.if-self.false there c.hear.ensures.width c.hear.ensures.marks)
