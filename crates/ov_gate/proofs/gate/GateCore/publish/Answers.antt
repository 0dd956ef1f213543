use Rattle.std.proofs.Common.{arith}
use Rattle.ov_gate.proofs.Publishes.{publish_none, publish_steps}
use Rattle.ov_gate.proofs.gate.GateCore.publish.Goals as goal

pub returns-then-time-clause-steps : goal.returns-then-time-clause-steps
returns-then-time-clause-steps c = rw (← c.self.view_is) (λ t h actor is. publish_none t h actor _ c.args.clock c.least_time.result c.time_at-time.result is c.if-self.false (rw (← c.self.view_is) at c.least_time.ensures) c.time_at-time.ensures (omega (arith, c.if-time.true)))

pub returns-clause-steps : goal.returns-clause-steps
returns-clause-steps c = rw (← c.self.view_is, c.entry.ensures) (λ t h actor is.
    publish_steps t h actor _ c.args.clock c.least_time.result c.time_at-time.result c.vector_at-vector.result c.merge.new.self is c.if-self.false (rw (← c.self.view_is) at c.least_time.ensures) c.time_at-time.ensures (omega (arith, c.if-time.false))
    (rw (← c.self.view_is) at c.vector_at-vector.ensures.width) (rw (← c.self.view_is) at c.vector_at-vector.ensures.marks) c.merge.ensures.count c.merge.ensures.each)
