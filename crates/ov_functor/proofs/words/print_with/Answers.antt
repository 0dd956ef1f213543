use Rattle.std.proofs.Common.{◌≡◌, ◌∷◌, ◌++◌, rules}
use Rattle.ov_base.specs.Amount.{amount_text}
use Rattle.ov_base.proofs.Printing.{printed_then}
use Rattle.ov_functor.proofs.words.print_with.Goals as goal

pub returns : goal.returns
returns c =
    let word : c.extend_from_slice.new.self.items ≡ c.args.text.now.items ++ c.args.word.now = search rules in
    printed_then c.print_valued.result _ c.extend_from_slice.new.self.items _ c.args.word.now (32 ∷ c.args.key.now ++ 32 ∷ amount_text c.args.amount.now) word c.print_valued.ensures
