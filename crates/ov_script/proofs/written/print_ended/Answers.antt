use Rattle.std.proofs.Common.{[], ◌∷◌}
use Rattle.std.proofs.lemmas.Result.{err_from_is_err_and}
use Rattle.ov_base.proofs.Printing.{printed_before}
use Rattle.ov_script.specs.Line.{line_text}
use Rattle.ov_script.specs.Written.{line_at}
use Rattle.ov_script.proofs.written.print_ended.Goals as goal

pub returns-in_err-print_line : goal.returns-in_err-print_line
returns-in_err-print_line c =
    let p = err_from_is_err_and c.from_residual.result c.from_residual.ensures.1 in
    rw p.1 (printed_before c.args.text.now.items c.print_line.new.text.items (line_text (line_at c.args.roster.now c.args.written.now)) (10 ∷ []) c.in_err-print_line.ensures)
