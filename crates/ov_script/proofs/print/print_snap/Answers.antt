use Rattle.std.proofs.Common.{◌++◌, codes}
use Rattle.std.proofs.lemmas.Result.{err_from_is_err_and}
use Rattle.ov_base.proofs.Printing.{printed_then, printed_before}
use Rattle.ov_script.specs.Line.{keys_text}
use Rattle.ov_script.proofs.print.print_snap.Goals as goal

pub returns-in_err-print_kind : goal.returns-in_err-print_kind
returns-in_err-print_kind c =
    let p = err_from_is_err_and c.from_residual.result c.from_residual.ensures.1 in
    rw p.1 (printed_before c.args.text.now.items c.print_kind.new.text.items (c.args.session.now ++ codes " snap ") (keys_text c.args.keys.now) c.in_err-print_kind.ensures)

pub returns : goal.returns
returns c =
    printed_then c.print_keys.result _ c.print_kind.new.text.items _ (c.args.session.now ++ codes " snap ") (keys_text c.args.keys.now) c.in_ok-print_kind.ensures c.print_keys.ensures
