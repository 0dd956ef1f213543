use Rattle.std.proofs.Common.{rules}
use Rattle.ov_gossip.proofs.Vectors.{padded_of}
use Rattle.ov_gossip.proofs.vector.Vector.of.Goals as goal

pub invariant_of-result : goal.invariant_of-result
invariant_of-result c = padded_of c.copy_from_slice.new.self c.args.marks.now c.copy_from_slice.ensures.after c.requires
