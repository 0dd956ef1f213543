use Rattle.std.proofs.Common.{◌≡◌, ◌+◌, ℕ, List, length, take, drop, set, insert, ap, ◌∙◌, arith}
use Rattle.std.proofs.lemmas.List.{length-take-le}
use Rattle.ov_lists.specs.Parts.{Cut, part_at}
use Rattle.ov_lists.proofs.Numbering.{read_block, filed_set, set_in_order}
use Rattle.ov_lists.proofs.blocks.Blocks.split.Goals as goal

pub invariant_of-self : goal.invariant_of-self
invariant_of-self c =
    let sees = ap (λ (s : Cut). s.parts) c.self.view_is in
    let q = read_block c.self.inside.blocks.items c.self.inside.order.items c.args.self.now.parts c.args.at c.index-number.result.now c.index_mut.result.now c.self.invariant sees c.requires.within c.index-number.ensures c.index_mut.ensures.value in
    let same = ap length q.1 in
    let long : length c.split-upper.new.self ≡ 16 = ap length c.split-upper.ensures.lower ∙ length-take-le 16 c.index_mut.result.now (omega (arith, c.requires.full, same)) in
    filed_set c.self.inside.blocks.items c.self.inside.order.items c.args.at c.index-number.result.now c.split-upper.new.self c.self.invariant q.0 c.index-number.ensures
    (omega (arith, long)) (omega (arith, long))

pub returns-clause-parts : goal.returns-clause-parts
returns-clause-parts c =
    let sees = ap (λ (s : Cut). s.parts) c.self.view_is in
    let q = read_block c.self.inside.blocks.items c.self.inside.order.items c.args.self.now.parts c.args.at c.index-number.result.now c.index_mut.result.now c.self.invariant sees c.requires.within c.index-number.ensures c.index_mut.ensures.value in
    let lower : _ ≡ set c.args.self.now.parts c.args.at (take 16 (part_at c.args.self.now.parts c.args.at)) =
    set_in_order c.self.inside.blocks.items c.self.inside.order.items c.args.at c.index-number.result.now c.split-upper.new.self c.self.invariant.once c.self.invariant.known q.0 c.index-number.ensures
    ∙ ap (λ (t : List (List ℕ)). set t c.args.at c.split-upper.new.self) sees
    ∙ ap (λ (t : List ℕ). set c.args.self.now.parts c.args.at t) (c.split-upper.ensures.lower ∙ ap (take 16) q.1) in
    c.add.ensures.parts
    ∙ ap (λ (t : List (List ℕ)). insert t (c.args.at + 1) c.split-upper.result) lower
    ∙ ap (λ (t : List ℕ). insert (set c.args.self.now.parts c.args.at (take 16 (part_at c.args.self.now.parts c.args.at))) (c.args.at + 1) t) (c.split-upper.ensures.upper ∙ ap (drop 16) q.1)
