use Rattle.std.proofs.Common.{sym, ap, ◌∙◌, arith}
use Rattle.std.specs.List.{list_all}
use Rattle.ov_session.specs.Standing.{knows}
use Rattle.ov_session.proofs.Standings.{none_next, none_past, none_waited, may_begin, next_idle, may_note}
use Rattle.ov_session.proofs.sessions.Sessions.ready.Goals as goal

pub returns-in_err-standing-clause-none : goal.returns-in_err-standing-clause-none
returns-in_err-standing-clause-none c =
    let past = c.in_err-standing.ensures.none.0 in
    λ gate events h. rw c.from_residual.ensures (λ seq. none_past c.args.roster.now gate events c.args.self.now c.args.session seq past h)

pub returns-in_err-planned-clause-none : goal.returns-in_err-planned-clause-none
returns-in_err-planned-clause-none c =
    λ gate events h. rw c.from_residual-in_err-planned.ensures
    (λ seq. none_next c.args.roster.now gate events c.args.self.now c.args.session seq c.in_ok-standing.standing c.in_ok-standing.ensures.some.1 (sym c.in_err-planned.ensures) h)

pub overflow_add-result : goal.overflow_add-result
overflow_add-result c =
    let next = next_idle c.args.roster.now c.args.self.now.gate c.args.session c.in_ok-standing.standing c.in_ok-planned.planned.now c.requires (sym c.in_ok-planned.ensures) in
    omega (arith, next.1)

pub returns-then-knows_all-clause-some : goal.returns-then-knows_all-clause-some
returns-then-knows_all-clause-some c =
    let known = ap (list_all (knows c.args.self.now)) (sym c.as_slice.ensures) ∙ (sym c.knows_all.ensures ∙ c.if-knows_all.true) in
    λ gate events h. may_begin c.args.roster.now gate events c.args.self.now c.args.session c.in_ok-standing.standing c.in_ok-planned.planned.now
    c.in_ok-standing.ensures.some.1 (sym c.in_ok-planned.ensures) known h

pub returns-then-knows_all-clause-idle : goal.returns-then-knows_all-clause-idle
returns-then-knows_all-clause-idle c =
    may_note c.args.roster.now c.args.self.now c.args.session c.in_ok-standing.standing c.in_ok-planned.planned.now c.requires
    c.in_ok-standing.ensures.some.0 c.in_ok-standing.ensures.some.1 (sym c.in_ok-planned.ensures)

pub returns-else-knows_all-clause-none : goal.returns-else-knows_all-clause-none
returns-else-knows_all-clause-none c =
    let waits = ap (list_all (knows c.args.self.now)) (sym c.as_slice.ensures) ∙ (sym c.knows_all.ensures ∙ c.if-knows_all.false) in
    λ gate events h seq. none_waited c.args.roster.now gate events c.args.self.now c.args.session seq c.in_ok-standing.standing c.in_ok-planned.planned.now
    c.in_ok-standing.ensures.some.1 (sym c.in_ok-planned.ensures) waits h
