use Rattle.std.proofs.Common.{◌≡◌, ◌∷◌, ◌++◌, rules}
use Rattle.ov_base.specs.Amount.{amount_text}
use Rattle.ov_base.proofs.Printing.{printed_then}
use Rattle.ov_event.proofs.item_text.print_sides.Goals as goal

pub returns : goal.returns
returns c =
    let word : c.extend_from_slice.new.self.items ≡ c.args.text.now.items ++ c.args.one.now.from = search rules in
    printed_then c.print_getter.result _ c.extend_from_slice.new.self.items _ c.args.one.now.from (32 ∷ c.args.one.now.to ++ 32 ∷ amount_text c.args.one.now.amount) word c.print_getter.ensures
