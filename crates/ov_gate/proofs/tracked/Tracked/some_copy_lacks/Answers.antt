use Rattle.std.proofs.Common.{◌≡◌, true, refl, sym, ◌∙◌, arith}
use Rattle.ov_gate.specs.Tracked.{some_copy_lacks}
use Rattle.ov_history.proofs.Counting.{none_passes, some_passes}
use Rattle.ov_gate.proofs.tracked.Tracked.some_copy_lacks.Goals as goal

pub returns-then-not-is_acked_by_all : goal.returns-then-not-is_acked_by_all
returns-then-not-is_acked_by_all c =
    let lacks : some_copy_lacks c.args.topology.now c.args.self.now.touched c.args.self.now.acked c.loop-part.part ≡ true =
    rw (sym c.has.ensures ∙ c.if-has.true, sym c.is_acked_by_all.ensures ∙ c.if-not-is_acked_by_all.true) refl in
    sym (some_passes (some_copy_lacks c.args.topology.now c.args.self.now.touched c.args.self.now.acked) c.args.topology.now.partitions c.loop-part.part (omega arith) lacks)

pub returns : goal.returns
returns c = sym (none_passes (some_copy_lacks c.args.topology.now c.args.self.now.touched c.args.self.now.acked) c.args.topology.now.partitions (λ p less. c.loop-part.invariant p (omega (arith, less))))
