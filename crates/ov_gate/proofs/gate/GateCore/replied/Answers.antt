use Rattle.ov_gate.proofs.gate.GateCore.replied.Goals as goal

pub returns-clause-steps : goal.returns-clause-steps
returns-clause-steps c = rw (c.in-Result.is, ← c.in_ok-copy.ensures) c.reply_with.ensures.steps
