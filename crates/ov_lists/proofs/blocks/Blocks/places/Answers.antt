use Rattle.std.proofs.Common.{length, ap, ◌∙◌, arith}
use Rattle.ov_lists.specs.Parts.{Cut}
use Rattle.ov_lists.proofs.Numbering.{read_block, part_room}
use Rattle.ov_lists.proofs.blocks.Blocks.places.Goals as goal

pub returns-clause-value : goal.returns-clause-value
returns-clause-value c =
    let sees = ap (λ (s : Cut). s.parts) c.self.view_is in
    let q = read_block c.self.inside.blocks.items c.self.inside.order.items c.args.self.now.parts c.args.block c.index.result.now c.index-2.result.now c.self.invariant sees c.requires c.index.ensures c.index-2.ensures in
    c.places.ensures.value ∙ q.1

pub returns-clause-some : goal.returns-clause-some
returns-clause-some c =
    let room = part_room c.self.inside.blocks.items c.self.inside.order.items c.args.self.now.parts c.args.block c.self.invariant (ap (λ (s : Cut). s.parts) c.self.view_is) c.requires in
    omega (arith, ap length (returns-clause-value c), room.0)
