use Rattle.std.proofs.lemmas.List.{take-replicate}
use Rattle.ov_gossip.specs.Marks.{no_marks}
use Rattle.ov_gossip.proofs.Vectors.{padded_new}
use Rattle.ov_gossip.proofs.vector.Vector.new.Goals as goal

pub invariant_of-result : goal.invariant_of-result
invariant_of-result c = padded_new c.args.gateways c.requires.0 c.requires.1

pub returns : goal.returns
returns c = take-replicate c.args.gateways 8 no_marks c.requires.1
