use Rattle.std.proofs.Common.{◌≡◌, length, get_or, ap, subst, arith}
use Rattle.ov_cells.proofs.Values.{input_before}
use Rattle.ov_cells.proofs.cells.Cells.gather.Goals as goal

pub read-requires-clause-before : goal.read-requires-clause-before
read-requires-clause-before c =
    let inputs = c.as_slice-input-items.ensures in
    let long = ap (λ l. length l) inputs in
    input_before c.args.place c.args.task.now.inputs c.loop-input.input-index c.input-item.result c.requires.fed.before (omega arith)
    (subst (λ l. c.input-item.result ≡ get_or l c.loop-input.input-index c.input-item.result) inputs c.input-item.is)
