use Rattle.ov_top.proofs.write.put_history.Goals as goal

pub returns-then-journal : goal.returns-then-journal
returns-then-journal g c = rw (c.if-journal.true, ← c.in-Ok.ensures, ← c.as_slice.ensures) c.put_journal.ensures
