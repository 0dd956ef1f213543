use Rattle.std.proofs.lemmas.Result.{err_from_is_err_and}
use Rattle.ov_base.proofs.Printing.{printed_inside}
use Rattle.ov_event.specs.ItemWords.{item_text}
use Rattle.ov_event.proofs.item_text.print_items.Goals as goal

pub returns-in_err-print_item : goal.returns-in_err-print_item
returns-in_err-print_item c =
    let p = err_from_is_err_and c.from_residual.result c.from_residual.ensures.1 in
    rw p.1 (printed_inside item_text c.args.items.now c.loop-item.item-index c.item-item.result _ c.loop-item.text.items _ c.loop-item-test.true c.item-item.is c.loop-item.invariant
    c.in_err-print_item.ensures)
