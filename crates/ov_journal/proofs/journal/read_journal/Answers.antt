use Rattle.std.proofs.lemmas.Result.{IfOk-weaker}
use Rattle.ov_journal.proofs.Journals.{given_takes}
use Rattle.ov_journal.proofs.journal.read_journal.Goals as goal

pub returns-clause-spelled : goal.returns-clause-spelled
returns-clause-spelled c =
    IfOk-weaker c.journal_read.result _ _ (λ entries h. h.1) (given_takes (λ entries. entries.items) c.journal_read.result c.args.bytes.now c.journal_read.ensures)

pub returns-clause-form : goal.returns-clause-form
returns-clause-form c =
    IfOk-weaker c.journal_read.result _ _ (λ entries h. h.0) (given_takes (λ entries. entries.items) c.journal_read.result c.args.bytes.now c.journal_read.ensures)
