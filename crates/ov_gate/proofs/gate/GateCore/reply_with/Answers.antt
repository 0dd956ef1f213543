use Rattle.std.proofs.Common.{◌≡◌, false, ap, subst, sym, ◌∙◌}
use Rattle.ov_session.specs.Standing.{IsOpen}
use Rattle.ov_gate.specs.Gate.{GateState}
use Rattle.ov_gate.proofs.Calls.{replied_none, replied_steps}
use Rattle.ov_gate.proofs.gate.GateCore.reply_with.Goals as goal
use Rattle.ov_gate.proofs.gate.GateCore.reply_with.Goals.{then-self-via-then-self, then-self-via-else-self+then-gate-self, then-self-via-else-self+else-gate-self+then-not-is_open}

pub returns-then-self-clause-steps : goal.returns-then-self-clause-steps
returns-then-self-clause-steps c = rw (← c.self.view_is) (λ t h actor is there.
    replied_none t h actor _ c.args.place c.args.session c.args.seq c.args.gate c.args.reply is there (λ running own open_. elim c.then-self.branch [
      | then-self-via-then-self w ↦ let a = w.if-self.true in absurd cc
      | then-self-via-else-self+then-gate-self w ↦ absurd (w.if-gate-self.true own)
      | then-self-via-else-self+else-gate-self+then-not-is_open w ↦ let a = rw w.if-not-is_open.true at (w.is_open.ensures.1 open_) in absurd cc
    ]))

pub returns-clause-steps : goal.returns-clause-steps
returns-clause-steps c =
    let running : c.args.self.now.stopped ≡ false = ap (λ (s : GateState). s.stopped) (sym c.self.view_is) ∙ c.if-self.false in
    let own : c.args.gate ≡ c.args.self.now.gate = c.if-gate-self.false ∙ ap (λ (s : GateState). s.gate) c.self.view_is in
    let open_ : IsOpen c.args.self.now.sessions c.args.session c.args.seq = subst (λ one. IsOpen one c.args.session c.args.seq) (ap (λ (s : GateState). s.sessions) c.self.view_is) (c.is_open.ensures.0 c.if-not-is_open.false) in
    let said = rw (ap (λ (s : GateState). s.gate) c.note_reply.ensures.rest) at c.entry.ensures in
    rw said (λ t h actor is there.
    replied_steps t h actor c.args.self.now c.note_reply.new.self c.args.place c.args.session c.args.seq c.args.gate c.args.reply is running there own open_ c.note_reply.ensures)
