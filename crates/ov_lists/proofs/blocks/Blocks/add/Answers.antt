use Rattle.std.proofs.Common.{◌≤◌, ℕ, List, length, insert, ap, ◌∙◌, arith}
use Rattle.ov_lists.specs.Parts.{Cut}
use Rattle.ov_lists.proofs.Numbering.{count_in_order, filed_add, add_in_order}
use Rattle.ov_lists.proofs.blocks.Blocks.add.Goals as goal

pub invariant_of-self : goal.invariant_of-self
invariant_of-self c =
    let sees = ap (λ (s : Cut). s.parts) c.self.view_is in
    let le : c.args.at ≤ length c.self.inside.order.items = omega (arith, c.requires.within, ap length sees, count_in_order c.self.inside.blocks.items c.self.inside.order.items) in
    rw (c.insert_within.ensures.items, c.push_within-number.ensures.items, c.push_within-number.ensures.place)
    (filed_add c.self.inside.blocks.items c.self.inside.order.items c.args.at c.args.block c.self.invariant le c.requires.some c.requires.short)

pub returns-clause-parts : goal.returns-clause-parts
returns-clause-parts c =
    let sees = ap (λ (s : Cut). s.parts) c.self.view_is in
    let le : c.args.at ≤ length c.self.inside.order.items = omega (arith, c.requires.within, ap length sees, count_in_order c.self.inside.blocks.items c.self.inside.order.items) in
    rw (c.insert_within.ensures.items, c.push_within-number.ensures.items, c.push_within-number.ensures.place)
    (add_in_order c.self.inside.blocks.items c.self.inside.order.items c.args.at c.args.block c.self.invariant.known le ∙ ap (λ (t : List (List ℕ)). insert t c.args.at c.args.block) sees)
