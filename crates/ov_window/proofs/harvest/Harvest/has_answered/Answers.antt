use Rattle.std.proofs.Common.{arith, ap}
use Rattle.ov_window.specs.Harvest.{Gathered}
use Rattle.ov_window.proofs.Marks.{row_length}
use Rattle.ov_window.proofs.harvest.Harvest.has_answered.Goals as goal

pub index-requires-2 : goal.index-requires-2
index-requires-2 c =
    let partitions = ap (λ (g : Gathered). g.topology.partitions) c.self.view_is in
    let centres = ap (λ (g : Gathered). g.topology.centres) c.self.view_is in
    let long = row_length c.self.inside.topology c.self.inside.answered.items c.args.part c.index.result.now c.self.invariant (omega (arith, partitions, c.requires.part)) c.index.ensures in
    omega (arith, c.index.result.now.ok.0, long, centres, c.requires.centre)
