use Rattle.ov_gate.proofs.Begins.{look_steps}
use Rattle.ov_gate.proofs.gate.GateCore.look.Goals as goal

pub returns-clause-steps : goal.returns-clause-steps
returns-clause-steps c = rw (← c.self.view_is, c.entry.ensures, c.in_ok-copy.ensures) (λ t h actor clock planned is running next command seq.
    look_steps t h actor _ c.args.session c.args.seq clock c.floor-floor.result c.args.keys.now planned c.begun.new.self is running next command seq (λ roster g es stands. c.floor-floor.ensures.meaning roster g es stands) (λ roster g es stands. c.begun.ensures.meaning roster g es stands))
