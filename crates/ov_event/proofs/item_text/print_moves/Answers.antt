use Rattle.std.proofs.lemmas.Result.{err_from_is_err_and}
use Rattle.ov_base.proofs.Printing.{printed_inside}
use Rattle.ov_event.specs.ItemWords.{move_text}
use Rattle.ov_event.proofs.item_text.print_moves.Goals as goal

pub returns-in_err-print_move : goal.returns-in_err-print_move
returns-in_err-print_move c =
    let p = err_from_is_err_and c.from_residual.result c.from_residual.ensures.1 in
    rw p.1 (printed_inside move_text c.args.moves.now c.loop-one.one-index c.one-item.result _ c.loop-one.text.items _ c.loop-one-test.true c.one-item.is c.loop-one.invariant
    c.in_err-print_move.ensures)
