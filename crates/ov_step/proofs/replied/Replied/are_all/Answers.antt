use Rattle.std.proofs.Common.{◌≡◌, ◌≤◌, ◌<◌, ℕ, ◌+◌, Some, length, sym, ap, subst, ◌∙◌, arith}
use Rattle.std.specs.Prelude.{slice_get}
use Rattle.ov_session.specs.declared.plan.SessionPlan.{SessionPlan}
use Rattle.ov_session.specs.declared.roster.Roster.{Roster}
use Rattle.ov_history.specs.May.{Setting}
use Rattle.ov_step.proofs.Replying.{plan_there, session_more, all_sessions, one_open}
use Rattle.ov_step.proofs.replied.Replied.are_all.Goals as goal
use Rattle.ov_step.proofs.replied.Replied.are_all.Goals.{After-move_on}

-- the session that the loop has come to is there
there : (c : After-move_on) (t : Setting) → t.roster ≡ c.args.roster.now → slice_get t.roster.sessions c.move_on.new.self.session ≡ Some c.index-as_slice-session.result
there c t same =
    plan_there t c.args.roster.now c.as_slice.result.now c.move_on.new.self.session c.loop-session.session c.len-session-end.result c.index-as_slice-session.result same c.as_slice.ensures
    c.len-session-end.ensures (c.move_on.ensures.session ∙ c.loop-session.invariant.session) c.loop-session-test.true c.index-as_slice-session.is

-- and has so many commands
count : (c : After-move_on) → c.len-commands.result ≡ length c.index-as_slice-session.result.planned
count c = c.len-commands.ensures ∙ ap (λ (plan : SessionPlan). length plan.planned) (sym c.index-as_slice-session.is)

pub returns-then-self-commands-clause-all : goal.returns-then-self-commands-clause-all
returns-then-self-commands-clause-all c t h same done is =
    let before = (goal.at.returns-then-self-commands-clause-all c).After-move_on in
    sym (one_open t h c.move_on.new.self.session c.move_on.new.self.seq c.index-as_slice-session.result (there before t same)
    (subst (λ (n : ℕ). c.move_on.new.self.seq < n) (count before) c.if-self-commands.true) (c.move_on.ensures.next h done c.if-self-commands.true))

pub loop-session-preserved : goal.loop-session-preserved
loop-session-preserved c =
    let before = (goal.at.loop-session-preserved c).After-move_on in
    record {
      session = ap (λ (n : ℕ). n + 1) (c.move_on.ensures.session ∙ c.loop-session.invariant.session);
      replied = λ t h same done is.
          session_more t h c.move_on.new.self.session c.move_on.new.self.seq c.index-as_slice-session.result (there before t same)
          (subst (λ (n : ℕ). n ≤ c.move_on.new.self.seq) (count before) c.if-self-commands.false)
          (c.move_on.ensures.replied t h done (c.loop-session.invariant.replied t h same done is));
    }

pub returns-clause-all : goal.returns-clause-all
returns-clause-all c t h same done is =
    let sessions : length t.roster.sessions ≡ length c.args.roster.now.sessions = ap (λ (roster : Roster). length roster.sessions) same in
    sym (all_sessions t h c.loop-session.self.session c.loop-session.self.seq
    (omega (arith, sessions, c.len-session-end.ensures, c.loop-session-test.false, c.loop-session.invariant.session)) (c.loop-session.invariant.replied t h same done is))
