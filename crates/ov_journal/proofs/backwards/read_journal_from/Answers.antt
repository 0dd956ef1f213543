use Rattle.std.proofs.lemmas.Result.{IfOk-weaker}
use Rattle.ov_journal.proofs.Journals.{given_takes}
use Rattle.ov_journal.proofs.backwards.read_journal_from.Goals as goal

pub returns-clause-spelled : goal.returns-clause-spelled
returns-clause-spelled c =
    IfOk-weaker c.read_backwards.result _ _ (λ entries h. h.1) (given_takes (λ entries. entries.items) c.read_backwards.result c.args.text.items c.read_backwards.ensures)

pub returns-clause-form : goal.returns-clause-form
returns-clause-form c =
    IfOk-weaker c.read_backwards.result _ _ (λ entries h. h.0) (given_takes (λ entries. entries.items) c.read_backwards.result c.args.text.items c.read_backwards.ensures)
