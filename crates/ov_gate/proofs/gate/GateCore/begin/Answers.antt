use Rattle.std.proofs.Common.{◌≡◌, false, sym, ap, ◌∙◌}
use Rattle.std.proofs.lemmas.Result.{IfOk-weaker}
use Rattle.ov_gate.specs.Gate.{GateState}
use Rattle.ov_gate.proofs.Begins.{none_may}
use Rattle.ov_gate.proofs.gate.GateCore.begin.Goals as goal

pub returns-in-None-clause-steps : goal.returns-in-None-clause-steps
returns-in-None-clause-steps c = rw (← c.self.view_is) (λ t h actor roster is. none_may t h actor _ c.args.session c.args.clock is c.if-self.false (rw roster (c.in-None.ensures.none _ _ (rw roster at is.sessions_are))))

pub returns-in-Some-clause-steps : goal.returns-in-Some-clause-steps
returns-in-Some-clause-steps c =
    let sees : c.args.self.now.sessions ≡ c.self.inside.sessions = ap (λ (s : GateState). s.sessions) (sym c.self.view_is) in
    let running : c.args.self.now.stopped ≡ false = ap (λ (s : GateState). s.stopped) (sym c.self.view_is) ∙ c.if-self.false in
    IfOk-weaker c.begin_next.result _ _ (λ answer steps. λ t h actor roster is. steps t h actor roster is running (c.in-Some.ensures.some _ _ (rw (roster, sees) at is.sessions_are))) c.begin_next.ensures.steps
