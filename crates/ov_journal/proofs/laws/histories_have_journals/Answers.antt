use Rattle.ov_journal.proofs.Journals.{journal_again}
use Rattle.ov_journal.proofs.Judging.{lawful_judged}
use Rattle.ov_journal.proofs.Lawful.{journal_lines}
use Rattle.ov_journal.proofs.laws.histories_have_journals.Goals as goal

pub returns-clause-lines : goal.returns-clause-lines
returns-clause-lines c = journal_lines

pub returns-clause-again : goal.returns-clause-again
returns-clause-again c = λ topology script h form run few. journal_again _ (journal_lines topology script h form run few)

pub returns-clause-lawful : goal.returns-clause-lawful
returns-clause-lawful c = lawful_judged
