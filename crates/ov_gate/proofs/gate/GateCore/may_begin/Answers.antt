use Rattle.std.proofs.Common.{◌≡◌, sym, ap}
use Rattle.ov_session.specs.Standing.{MayBegin}
use Rattle.ov_history.specs.Sessions.{events_of}
use Rattle.ov_gate.specs.Gate.{GateState}
use Rattle.ov_gate.proofs.Admits.{start_iff}
use Rattle.ov_gate.proofs.Begins.{command_may}
use Rattle.ov_gate.proofs.gate.GateCore.may_begin.Goals as goal

pub returns-in-None : goal.returns-in-None
returns-in-None c =
    let sees : c.args.self.now.sessions ≡ c.self.inside.sessions = ap (λ (s : GateState). s.sessions) (sym c.self.view_is) in
    λ t h actor roster is. (λ no_. absurd cc, λ may. absurd (c.in-None.ensures.none _ _ (rw (roster, sees) at is.sessions_are) _ (rw roster at may.ready)))

pub returns-then-next-seq : goal.returns-then-next-seq
returns-then-next-seq c =
    let sees : c.args.self.now.sessions ≡ c.self.inside.sessions = ap (λ (s : GateState). s.sessions) (sym c.self.view_is) in
    λ t h actor roster is.
    let m : MayBegin c.args.roster.now c.args.self.now.gate (events_of c.args.self.now.gate h) c.args.session c.args.seq = rw (sym c.if-next-seq.true) (c.in-Some.ensures.some c.args.self.now.gate (events_of c.args.self.now.gate h) (rw (roster, sees) at is.sessions_are)) in
    start_iff t c.args.roster.now h c.args.self.now.gate c.args.session c.args.seq c.args.start.now c.starts_next.result roster m
    (c.starts_next.ensures t h actor m.planned.command is (command_may c.args.roster.now c.args.self.now.gate c.args.session c.args.seq (events_of c.args.self.now.gate h) m))
