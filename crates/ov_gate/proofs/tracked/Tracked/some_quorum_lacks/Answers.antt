use Rattle.std.proofs.Common.{◌≡◌, true, sym, ◌∙◌, arith}
use Rattle.std.proofs.lemmas.Bool.{lt-ltb}
use Rattle.ov_gate.specs.Tracked.{few_acks}
use Rattle.ov_history.proofs.Counting.{some_passes}
use Rattle.ov_gate.proofs.tracked.Tracked.some_quorum_lacks.Goals as goal

pub returns-then-votes-write : goal.returns-then-votes-write
returns-then-votes-write c =
    let lacks : few_acks c.args.topology.now c.args.self.now.touched c.args.self.now.acked c.loop-part.part ≡ true =
    rw (sym c.has.ensures ∙ c.if-has.true, ← c.votes.ensures, ← c.write.ensures.value) (lt-ltb c.votes.result c.write.result c.if-votes-write.true) in
    sym (some_passes (few_acks c.args.topology.now c.args.self.now.touched c.args.self.now.acked) c.args.topology.now.partitions c.loop-part.part (omega arith) lacks)
