use Rattle.ov_top.proofs.write.put_refusal.Goals as goal

pub returns-in-Failed-clause-puts : goal.returns-in-Failed-clause-puts
returns-in-Failed-clause-puts g c = rw c.in-Failed.is (rw c.name_of.ensures at c.put_named.ensures)
