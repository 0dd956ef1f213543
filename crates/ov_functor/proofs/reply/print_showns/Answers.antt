use Rattle.std.proofs.lemmas.Result.{err_from_is_err_and}
use Rattle.ov_base.proofs.Printing.{printed_inside}
use Rattle.ov_functor.specs.Reply.{shown_text}
use Rattle.ov_functor.proofs.reply.print_showns.Goals as goal

pub returns-in_err-print_shown : goal.returns-in_err-print_shown
returns-in_err-print_shown c =
    let p = err_from_is_err_and c.from_residual.result c.from_residual.ensures.1 in
    rw p.1 (printed_inside shown_text c.args.list.now c.loop-shown.shown-index c.shown-item.result _ c.loop-shown.text.items _ c.loop-shown-test.true c.shown-item.is c.loop-shown.invariant
    c.in_err-print_shown.ensures)
