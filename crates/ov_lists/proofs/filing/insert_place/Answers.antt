use Rattle.std.proofs.Common.{◌<◌, length, ap, ◌∙◌, arith}
use Rattle.ov_lists.specs.Parts.{flat}
use Rattle.ov_lists.proofs.Parts.{flat_put}
use Rattle.ov_lists.proofs.filing.insert_place.Goals as goal

pub returns-then-len-lt-BLOCK_ROOM-clause-places : goal.returns-then-len-lt-BLOCK_ROOM-clause-places
returns-then-len-lt-BLOCK_ROOM-clause-places c =
    let some : 0 < length c.args.blocks.now.parts = omega (arith, c.count.ensures, c.if-count-eq0.false) in
    ap flat c.put.ensures.parts ∙ flat_put c.args.blocks.now.parts c.args.at.block c.args.at.offset c.args.place (c.requires.within.there some) c.requires.within.within
