use Rattle.std.proofs.Common.{◌≡◌, ◌+◌, length, insert, ap, ◌∙◌, arith}
use Rattle.ov_lists.specs.Parts.{flat, part_at, place_in}
use Rattle.ov_lists.proofs.Parts.{flat_put, flat_add, front_of_next}
use Rattle.ov_lists.proofs.filing.insert_behind.Goals as goal

pub returns-then-len_of-lt-BLOCK_ROOM-clause-places : goal.returns-then-len_of-lt-BLOCK_ROOM-clause-places
returns-then-len_of-lt-BLOCK_ROOM-clause-places c =
    let at : place_in c.args.blocks.now.parts (c.args.block + 1) 0 ≡ place_in c.args.blocks.now.parts c.args.block (length (part_at c.args.blocks.now.parts c.args.block)) =
    omega (arith, front_of_next c.args.blocks.now.parts c.args.block (c.args.block + 1) c.requires.there (omega arith)) in
    ap flat c.put.ensures.parts ∙ flat_put c.args.blocks.now.parts (c.args.block + 1) 0 c.args.place (omega (arith, c.count-count.ensures, c.if-next-count.true)) (omega arith)
    ∙ ap (λ k. insert (flat c.args.blocks.now.parts) k c.args.place) at

pub returns-else-next-count-clause-places : goal.returns-else-next-count-clause-places
returns-else-next-count-clause-places c =
    ap flat (c.add.ensures.parts ∙ ap (insert c.args.blocks.now.parts (c.args.block + 1)) c.of.ensures)
    ∙ flat_add c.args.blocks.now.parts (c.args.block + 1) c.args.place (omega (arith, c.requires.there))
    ∙ ap (λ k. insert (flat c.args.blocks.now.parts) k c.args.place) (front_of_next c.args.blocks.now.parts c.args.block (c.args.block + 1) c.requires.there (omega arith))
