use Rattle.std.proofs.Common.{◌≡◌, ◌∷◌, ◌++◌, rules}
use Rattle.ov_base.proofs.Printing.{printed_then}
use Rattle.ov_functor.proofs.words.print_on.Goals as goal

pub returns : goal.returns
returns c =
    let word : c.extend_from_slice.new.self.items ≡ c.args.text.now.items ++ c.args.word.now = search rules in
    printed_then c.print_key.result _ c.extend_from_slice.new.self.items _ c.args.word.now (32 ∷ c.args.key.now) word c.print_key.ensures
