use Rattle.ov_journal.specs.declared.verdict.Verdict.TheVariants.{Lawful}
use Rattle.ov_top.proofs.perform.perform.Goals as goal

pub returns-in-Schedule-clause-performs : goal.returns-in-Schedule-clause-performs
returns-in-Schedule-clause-performs g c = record {
  verdict = Lawful;
  right = rw c.in-Schedule.is tt;
  came = rw (c.in-Schedule.is, ← c.writes_journal-journal.ensures) c.follow.ensures.came;
}
