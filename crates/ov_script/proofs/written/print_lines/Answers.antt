use Rattle.std.proofs.lemmas.Result.{err_from_is_err_and}
use Rattle.std.proofs.lemmas.List.{get_or_default}
use Rattle.ov_base.proofs.Printing.{printed_inside}
use Rattle.ov_script.specs.Written.{kept_text}
use Rattle.ov_script.proofs.written.print_lines.Goals as goal

pub returns-in_err-print_ended : goal.returns-in_err-print_ended
returns-in_err-print_ended c =
    let p = err_from_is_err_and c.from_residual.result c.from_residual.ensures.1 in
    rw p.1 (printed_inside (kept_text c.args.roster.now) c.args.written.now c.loop-line.line-index _ _ c.loop-line.text.items _ c.loop-line-test.true
    (get_or_default c.args.written.now c.loop-line.line-index _ _ c.loop-line-test.true) c.loop-line.invariant c.in_err-print_ended.ensures)
