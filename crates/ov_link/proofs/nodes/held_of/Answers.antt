use Rattle.std.proofs.Common.{◌≡◌, Option, ap, sym, ◌∙◌, rules, tests, Bor}
use Rattle.std.specs.Prelude.{find}
use Rattle.std.specs.Option.{option_map}
use Rattle.std.proofs.lemmas.Iterator.{YieldsList-from_slice}
use Rattle.std.proofs.lemmas.Iterator.Search.{find_from_yields_List}
use Rattle.ov_link.specs.Nodes.{held_by, is_node}
use Rattle.ov_link.specs.declared.nodes.Held.{Held}
use Rattle.ov_link.proofs.Books.{found_held, none_held}
use Rattle.ov_link.proofs.nodes.held_of.Goals as goal

pub returns-in-Some : goal.returns-in-Some
returns-in-Some c =
    c.as_slice.ensures ∙ found_held c.args.nodes.now c.args.centre c.args.part c.in-Some.node.now
    (ap (option_map (λ (node : Bor Held). node.now)) (sym c.in-Some.is)
    ∙ find_from_yields_List (is_node c.args.centre c.args.part) _ _ c.find.result c.find.ensures.ran (YieldsList-from_slice c.args.nodes.now cc) (λ x b q k. search (rules, tests)))

pub returns-in-None : goal.returns-in-None
returns-in-None c =
    none_held c.args.nodes.now c.args.centre c.args.part
    (ap (option_map (λ (node : Bor Held). node.now)) (sym c.in-None.is)
    ∙ find_from_yields_List (is_node c.args.centre c.args.part) _ _ c.find.result c.find.ensures.ran (YieldsList-from_slice c.args.nodes.now cc) (λ x b q k. search (rules, tests)))
