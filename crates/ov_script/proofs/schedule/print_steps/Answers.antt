use Rattle.std.proofs.Common.{[], ◌∷◌, ◌++◌}
use Rattle.std.proofs.lemmas.Result.{err_from_is_err_and}
use Rattle.ov_base.proofs.Printing.{printed_inside}
use Rattle.ov_script.specs.Step.{step_text}
use Rattle.ov_script.proofs.schedule.print_steps.Goals as goal

pub returns-in_err-print_line : goal.returns-in_err-print_line
returns-in_err-print_line c =
    let p = err_from_is_err_and c.from_residual.result c.from_residual.ensures.1 in
    rw p.1 (printed_inside (λ step. step_text step ++ 10 ∷ []) c.args.steps.now c.loop-step.step-index c.step-item.result _ c.loop-step.text.items _ c.loop-step-test.true
    c.step-item.is c.loop-step.invariant c.in_err-print_line.ensures)
