use Rattle.ov_journal.proofs.tailed.add_line.Goals as goal

pub returns-in-Some : goal.returns-in-Some
returns-in-Some c = rw c.in-Some.ensures c.add_cut.ensures
