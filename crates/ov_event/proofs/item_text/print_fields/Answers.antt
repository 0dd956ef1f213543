use Rattle.std.proofs.Common.{◌≡◌, ◌∷◌, ◌++◌, rules}
use Rattle.ov_base.specs.Version.{version_text}
use Rattle.ov_base.proofs.Printing.{printed_then}
use Rattle.ov_event.specs.ItemWords.{effect_text}
use Rattle.ov_event.proofs.item_text.print_fields.Goals as goal

pub returns : goal.returns
returns c =
    let word : c.print_to.new.text.items ≡ c.args.text.now.items ++ version_text c.args.version = search rules in
    printed_then c.print_behind.result _ c.print_to.new.text.items _ (version_text c.args.version) (32 ∷ c.args.key.now ++ 32 ∷ effect_text c.args.effect) word c.print_behind.ensures
