use Rattle.std.proofs.lemmas.Result.{err_from_is_err_and}
use Rattle.ov_base.proofs.Printing.{printed_nothing}
use Rattle.ov_journal.specs.Line.{entry_text}
use Rattle.ov_journal.proofs.print.print_entry.Goals as goal

pub returns-in_err-print_into : goal.returns-in_err-print_into
returns-in_err-print_into c =
    let p = err_from_is_err_and c.from_residual.result c.from_residual.ensures.1 in
    rw p.1 (printed_nothing c.args.text.now.items (entry_text c.args.entry.now))
