use Rattle.std.proofs.Common.{arith, ap, length}
use Rattle.ov_lists.proofs.Parts.{read_flat, ends_within}
use Rattle.ov_lists.proofs.blocks.Blocks.place.Goals as goal

pub returns-clause-value : goal.returns-clause-value
returns-clause-value c =
    read_flat c.args.self.now.parts c.args.at.block c.args.at.offset c.places.result.now 0 c.requires.block c.places.ensures.value (omega (arith, ap length c.places.ensures.value, c.requires.offset))

pub returns-clause-within : goal.returns-clause-within
returns-clause-within c = omega (arith, ends_within c.args.self.now.parts c.args.at.block c.requires.block, c.requires.offset)
