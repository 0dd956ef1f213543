use Rattle.std.proofs.Common.{◌≡◌, [], ◌∷◌, ◌++◌, codes, rules}
use Rattle.ov_base.proofs.Printing.{printed_then}
use Rattle.ov_topology.specs.Actor.{actor_text}
use Rattle.ov_topology.specs.Place.{place_text}
use Rattle.ov_script.proofs.step.print_take.Goals as goal

pub returns : goal.returns
returns c =
    let word : c.extend_from_slice.new.self.items ≡ c.args.text.now.items ++ codes "take " = search rules in
    let name : c.print_to.new.text.items ≡ c.extend_from_slice.new.self.items ++ actor_text c.args.actor.now = search rules in
    let space : c.push.new.self.items ≡ c.print_to.new.text.items ++ 32 ∷ [] = search rules in
    printed_then c.print_to-2.result _ c.extend_from_slice.new.self.items _ (codes "take ") (actor_text c.args.actor.now ++ 32 ∷ place_text c.args.place.now) word
    (printed_then c.print_to-2.result _ c.print_to.new.text.items _ (actor_text c.args.actor.now) (32 ∷ place_text c.args.place.now) name
    (printed_then c.print_to-2.result _ c.push.new.self.items _ (32 ∷ []) (place_text c.args.place.now) space c.print_to-2.ensures))
