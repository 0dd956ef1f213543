use Rattle.std.proofs.Common.{◌∙◌}
use Rattle.ov_gate.proofs.Admits.{publish_iff, gate_there}
use Rattle.ov_gate.proofs.Publishes.{least_is}
use Rattle.ov_gate.proofs.gate.GateCore.may_publish.Goals as goal

pub returns-then-not-is_time : goal.returns-then-not-is_time
returns-then-not-is_time c = λ t h actor is.
    let least = c.least_time.ensures ∙ least_is t h actor c.args.self.now is in
    (λ no_. absurd cc, λ may. let a = rw c.if-not-is_time.true at (c.is_time.ensures.1 (rw least may.at)) in absurd cc)

pub returns : goal.returns
returns c = λ t h actor is.
    let least = c.least_time.ensures ∙ least_is t h actor c.args.self.now is in
    publish_iff t h actor c.args.self.now c.args.time c.args.vector.now c.vector_at.result c.same.result is (rw least at (c.is_time.ensures.0 c.if-not-is_time.false)) c.vector_at.ensures.width c.vector_at.ensures.marks (gate_there t h actor c.args.self.now is) c.same.ensures
