use Rattle.std.proofs.Common.{◌≡◌, ◌+◌, ℕ, List, length, set, insert, ap, ◌∙◌, arith}
use Rattle.std.proofs.lemmas.List.Edits.{length-insert}
use Rattle.ov_lists.specs.Parts.{Cut}
use Rattle.ov_lists.proofs.Numbering.{read_block, filed_set, set_in_order}
use Rattle.ov_lists.proofs.blocks.Blocks.put.Goals as goal

pub invariant_of-self : goal.invariant_of-self
invariant_of-self c =
    let sees = ap (λ (s : Cut). s.parts) c.self.view_is in
    let q = read_block c.self.inside.blocks.items c.self.inside.order.items c.args.self.now.parts c.args.at.block c.index-number.result.now c.index_mut.result.now c.self.invariant sees c.requires.block c.index-number.ensures c.index_mut.ensures.value in
    let same = ap length q.1 in
    let long : length c.insert.new.self ≡ length c.index_mut.result.now + 1 =
    ap length c.insert.ensures ∙ length-insert c.index_mut.result.now c.args.at.offset c.args.place (omega (arith, c.requires.offset, same)) in
    filed_set c.self.inside.blocks.items c.self.inside.order.items c.args.at.block c.index-number.result.now c.insert.new.self c.self.invariant q.0 c.index-number.ensures
    (omega (arith, long)) (omega (arith, long, c.requires.room, same))

pub returns-clause-parts : goal.returns-clause-parts
returns-clause-parts c =
    let sees = ap (λ (s : Cut). s.parts) c.self.view_is in
    let q = read_block c.self.inside.blocks.items c.self.inside.order.items c.args.self.now.parts c.args.at.block c.index-number.result.now c.index_mut.result.now c.self.invariant sees c.requires.block c.index-number.ensures c.index_mut.ensures.value in
    set_in_order c.self.inside.blocks.items c.self.inside.order.items c.args.at.block c.index-number.result.now c.insert.new.self c.self.invariant.once c.self.invariant.known q.0 c.index-number.ensures
    ∙ ap (λ (t : List (List ℕ)). set t c.args.at.block c.insert.new.self) sees
    ∙ ap (λ (t : List ℕ). set c.args.self.now.parts c.args.at.block t) (c.insert.ensures ∙ ap (λ (t : List ℕ). insert t c.args.at.offset c.args.place) q.1)
