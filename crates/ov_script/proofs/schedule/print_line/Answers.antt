use Rattle.std.proofs.Common.{[], ◌∷◌}
use Rattle.std.proofs.lemmas.Result.{err_from_is_err_and}
use Rattle.ov_base.proofs.Printing.{printed_before}
use Rattle.ov_script.specs.Step.{step_text}
use Rattle.ov_script.proofs.schedule.print_line.Goals as goal

pub returns-in_err-print_to : goal.returns-in_err-print_to
returns-in_err-print_to c =
    let p = err_from_is_err_and c.from_residual.result c.from_residual.ensures.1 in
    rw p.1 (printed_before c.args.text.now.items c.print_to.new.text.items (step_text c.args.step.now) (10 ∷ []) c.in_err-print_to.ensures)
