use Rattle.std.proofs.Common.{◌∷◌, ◌++◌, codes}
use Rattle.std.proofs.lemmas.Result.{err_from_is_err_and}
use Rattle.ov_base.specs.Amount.{amount_text}
use Rattle.ov_base.proofs.Printing.{printed_before}
use Rattle.ov_functor.proofs.words.print_move.Goals as goal

pub returns-in_err-print_on : goal.returns-in_err-print_on
returns-in_err-print_on c =
    let p = err_from_is_err_and c.from_residual.result c.from_residual.ensures.1 in
    rw p.1 (printed_before c.args.text.now.items c.print_on.new.text.items (codes "move" ++ 32 ∷ c.args.from.now) (32 ∷ c.args.to.now ++ 32 ∷ amount_text c.args.amount.now)
    c.in_err-print_on.ensures)
