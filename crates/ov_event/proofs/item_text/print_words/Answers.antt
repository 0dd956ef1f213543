use Rattle.std.proofs.Common.{ℕ, List, subst}
use Rattle.std.specs.List.{flat_map}
use Rattle.std.proofs.lemmas.Result.{err_from_is_err_and}
use Rattle.ov_base.specs.Word.{AddsFront, Printed}
use Rattle.ov_base.proofs.Printing.{printed_then, printed_before}
use Rattle.ov_event.specs.ItemWords.{fields_text, move_text}
use Rattle.ov_event.proofs.ItemWords.{item_joined}
use Rattle.ov_event.proofs.item_text.print_words.Goals as goal

pub returns-in_err-print_fields : goal.returns-in_err-print_fields
returns-in_err-print_fields c =
    let p = err_from_is_err_and c.from_residual.result c.from_residual.ensures.1 in
    rw p.1 (subst (λ (t : List ℕ). AddsFront c.args.text.now.items c.print_fields.new.text.items t) (item_joined c.args.item.now)
    (printed_before c.args.text.now.items c.print_fields.new.text.items (fields_text c.args.item.now.version c.args.item.now.key c.args.item.now.functor.effect)
    (flat_map move_text c.args.item.now.functor.moves) (rw c.effect.ensures at c.in_err-print_fields.ensures)))

pub returns : goal.returns
returns c =
    subst (λ (t : List ℕ). Printed c.print_moves.result c.args.text.now.items c.print_moves.new.text.items t) (item_joined c.args.item.now)
    (printed_then c.print_moves.result c.args.text.now.items c.print_fields.new.text.items c.print_moves.new.text.items
    (fields_text c.args.item.now.version c.args.item.now.key c.args.item.now.functor.effect) (flat_map move_text c.args.item.now.functor.moves)
    (rw c.effect.ensures at c.in_ok-print_fields.ensures) (rw c.moves.ensures.moves at c.print_moves.ensures))
