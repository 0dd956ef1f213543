use Rattle.std.proofs.Common.{arith}
use Rattle.ov_gate.proofs.Begins.{draw_none, draw_steps}
use Rattle.ov_gate.proofs.gate.GateCore.draw.Goals as goal

pub returns-then-time-clause-steps : goal.returns-then-time-clause-steps
returns-then-time-clause-steps c = rw (← c.self.view_is) (λ t h actor planned is running next command seq.
    draw_none t h actor _ c.args.session c.args.clock c.time_at-time.result c.args.transaction.now planned is running next command c.time_at-time.ensures (omega (arith, c.if-time.true)))

pub returns-clause-steps : goal.returns-clause-steps
returns-clause-steps c = rw (← c.self.view_is, c.entry.ensures, c.in_ok-copy.ensures, c.version_at-version.ensures) (λ t h actor planned is running next command seq.
    draw_steps t h actor _ c.args.session c.args.seq c.args.clock c.time_at-time.result c.args.transaction.now planned c.new-one.result c.begun.new.self _ c.add.new.self is running c.self.invariant.small next command seq
    c.time_at-time.ensures (omega (arith, c.if-time.false)) (rw (c.version_at-version.ensures, c.parts.ensures.parts) at c.new-one.ensures) c.in_ok-add.ensures.ok (rw c.version_at-version.ensures at c.set_latest.ensures) (λ roster g es stands. c.begun.ensures.meaning roster g es stands))
