use Rattle.ov_settler.proofs.settler.SettlerCore.take.Goals as goal

pub returns-clause-steps : goal.returns-clause-steps
returns-clause-steps c = rw (c.in-Answer.is, ← c.in_ok-copy.ensures) c.take_items.ensures.steps
