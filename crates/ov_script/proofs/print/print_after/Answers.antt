use Rattle.std.proofs.Common.{List, ℕ, ◌∷◌, ◌++◌, codes, subst, sym, append_assoc}
use Rattle.std.specs.Fmt.{decimal}
use Rattle.std.proofs.lemmas.Result.{err_from_is_err_and}
use Rattle.ov_base.specs.Word.{Printed}
use Rattle.ov_base.proofs.Printing.{printed_then, printed_before}
use Rattle.ov_script.proofs.print.print_after.Goals as goal

pub returns-in_err-print_kind : goal.returns-in_err-print_kind
returns-in_err-print_kind c =
    let p = err_from_is_err_and c.from_residual.result c.from_residual.ensures.1 in
    rw p.1 (printed_before c.args.text.now.items c.print_kind.new.text.items (c.args.session.now ++ codes " after " ++ c.args.other.now) (32 ∷ decimal c.args.seq)
    (printed_before c.args.text.now.items c.print_kind.new.text.items (c.args.session.now ++ codes " after ") c.args.other.now c.in_err-print_kind.ensures))

pub returns : goal.returns
returns c =
    let front = c.args.session.now ++ codes " after " in
    subst (λ (t : List ℕ). Printed c.print_awaited.result c.args.text.now.items c.print_awaited.new.text.items t) (sym (append_assoc front c.args.other.now (32 ∷ decimal c.args.seq)))
    (printed_then c.print_awaited.result _ c.print_kind.new.text.items _ front (c.args.other.now ++ 32 ∷ decimal c.args.seq) c.in_ok-print_kind.ensures c.print_awaited.ensures)
