use Rattle.std.proofs.Common.{◌≡◌, [], ◌∷◌, ◌++◌, rules}
use Rattle.ov_base.proofs.Printing.{printed_then}
use Rattle.ov_event.specs.ItemWords.{effect_text}
use Rattle.ov_event.proofs.item_text.print_behind.Goals as goal

pub returns : goal.returns
returns c =
    let space : c.push.new.self.items ≡ c.args.text.now.items ++ 32 ∷ [] = search rules in
    let word : c.extend_from_slice.new.self.items ≡ c.push.new.self.items ++ c.args.key.now = search rules in
    let next : c.push-2.new.self.items ≡ c.extend_from_slice.new.self.items ++ 32 ∷ [] = search rules in
    printed_then c.print_effect.result _ c.push.new.self.items _ (32 ∷ []) (c.args.key.now ++ 32 ∷ effect_text c.args.effect) space
    (printed_then c.print_effect.result _ c.extend_from_slice.new.self.items _ c.args.key.now (32 ∷ effect_text c.args.effect) word
    (printed_then c.print_effect.result _ c.push-2.new.self.items _ (32 ∷ []) (effect_text c.args.effect) next c.print_effect.ensures))
