use Rattle.std.proofs.Common.{arith, ap, length}
use Rattle.ov_window.specs.Harvest.{Gathered}
use Rattle.ov_window.proofs.Marks.{row_length}
use Rattle.ov_window.proofs.harvest.Harvest.complete.Goals as goal

pub is_enough-requires : goal.is_enough-requires
is_enough-requires c =
    let partitions = ap (λ (g : Gathered). g.topology.partitions) c.self.view_is in
    let centres = ap (λ (g : Gathered). g.topology.centres) c.self.view_is in
    let long = row_length c.self.inside.topology c.self.inside.answered.items c.args.part c.index.result.now c.self.invariant (omega (arith, c.partitions.ensures.value, c.if-part-partitions.false)) c.index.ensures in
    let same = ap length c.as_slice.ensures.value in
    omega (arith, same, long, centres)
