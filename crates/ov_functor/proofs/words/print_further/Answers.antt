use Rattle.std.proofs.lemmas.Result.{err_from_is_err_and}
use Rattle.ov_base.proofs.Printing.{printed_inside}
use Rattle.ov_functor.specs.Words.{further_text}
use Rattle.ov_functor.proofs.words.print_further.Goals as goal

pub returns-in_err-print_separated : goal.returns-in_err-print_separated
returns-in_err-print_separated c =
    let p = err_from_is_err_and c.from_residual.result c.from_residual.ensures.1 in
    rw p.1 (printed_inside further_text c.args.parts.now c.loop-part.part-index c.part-item.result _ c.loop-part.text.items _ c.loop-part-test.true c.part-item.is c.loop-part.invariant
    c.in_err-print_separated.ensures)
