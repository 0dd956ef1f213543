use Rattle.std.proofs.Common.{ℕ, List, ◌∷◌}
use Rattle.std.proofs.lemmas.Result.{err_from_is_err_and}
use Rattle.ov_base.proofs.Printing.{printed_inside}
use Rattle.ov_script.proofs.print.print_further.Goals as goal

pub returns-in_err-print_separated : goal.returns-in_err-print_separated
returns-in_err-print_separated c =
    let p = err_from_is_err_and c.from_residual.result c.from_residual.ensures.1 in
    rw p.1 (printed_inside (λ (key : List ℕ). 32 ∷ key) c.args.keys.now c.loop-key.key-index c.key-item.result _ c.loop-key.text.items _ c.loop-key-test.true c.key-item.is
    c.loop-key.invariant c.in_err-print_separated.ensures)
