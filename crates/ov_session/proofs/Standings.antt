-- When the command that comes next may begin, from how the sessions stand.
use Rattle.std.proofs.Common.{◌≡◌, ℕ, ◌+◌, ◌<◌, ◌≤◌, ◌^◌, Bool, true, false, IsTrue, ◌↔◌, ◌&&◌, List, [], ◌∷◌, length, Some, None, Option, refl, ap, sym, subst, ◌∙◌, arith, inl, inr}
use Rattle.std.specs.Prelude.{slice_get, ◌==◌, if◌then◌else◌}
use Rattle.std.specs.List.{AllByRecursion, list_all}
use Rattle.std.proofs.lemmas.Bool.{le-leb, leb-true, eqb-true, and_parts}
use Rattle.std.proofs.lemmas.Bool.Decides.{eqb_tells}
use Rattle.std.proofs.lemmas.Option.{get_or_from_slice_get, slice_get_within}
use Rattle.ov_base.proofs.Readers.{bind_some, chosen}
use Rattle.ov_base.proofs.Lists.{all_at}
use Rattle.ov_session.specs.declared.after.After.{After}
use Rattle.ov_session.specs.declared.planned.Planned.{Planned}
use Rattle.ov_session.specs.declared.plan.SessionPlan.{SessionPlan}
use Rattle.ov_session.specs.declared.roster.Roster.{Roster}
use Rattle.ov_session.specs.declared.sessions.Standing.{Standing}
use Rattle.ov_session.specs.Events.{Event, known}
use Rattle.ov_session.specs.Standing.{most_commands, State, StandsFor, IsRoster, MayBegin, Has, IsIdle, standing, standing_after, is_short, next_of, knows}

-- What comes next in a session.
pub record ComesNext (roster : Roster) (gate s : ℕ) (stands : Standing) (planned : Planned) : Type 0 where
  pub plan : SessionPlan
  pub session : slice_get roster.sessions s ≡ Some plan
  pub own : plan.gate ≡ gate
  pub idle : stands.begun ≡ stands.replied
  pub further : slice_get plan.planned stands.begun ≡ Some planned

next_in_plan : (roster : Roster) (gate s : ℕ) (stands : Standing) (planned : Planned) (plan : SessionPlan) → slice_get roster.sessions s ≡ Some plan
    → (if (plan.gate == gate) && (stands.begun == stands.replied) then slice_get plan.planned stands.begun else None) ≡ Some planned → ComesNext roster gate s stands planned
next_in_plan roster gate s stands planned plan here e =
    let q = chosen ((plan.gate == gate) && (stands.begun == stands.replied)) (slice_get plan.planned stands.begun) planned e in
    let tests = and_parts (plan.gate == gate) (stands.begun == stands.replied) q.0 in
    record { plan = plan; session = here; own = eqb-true plan.gate gate tests.0; idle = eqb-true stands.begun stands.replied tests.1; further = q.1 }

pub next_takes : (roster : Roster) (gate s : ℕ) (stands : Standing) (planned : Planned) → next_of roster gate s stands ≡ Some planned → ComesNext roster gate s stands planned
next_takes roster gate s stands planned e =
    bind_some (slice_get roster.sessions s) _ planned e λ plan here rest. next_in_plan roster gate s stands planned plan here rest

pub next_again : (roster : Roster) (gate s : ℕ) (stands : Standing) (planned : Planned) → ComesNext roster gate s stands planned → next_of roster gate s stands ≡ Some planned
next_again roster gate s stands planned h =
    elim (eqb_tells h.plan.gate gate) [
      | inl own ↦ elim (eqb_tells stands.begun stands.replied) [
        | inl idle ↦ rw (h.session, own.0, idle.0) h.further
        | inr busy ↦ absurd (busy.1 h.idle)
      ]
      | inr other ↦ absurd (other.1 h.own)
    ]

-- what may begin comes next
next_where_may : (roster : Roster) (gate : ℕ) (events : List Event) (state : State) (s seq : ℕ) → StandsFor roster gate events state → (m : MayBegin roster gate events s seq)
    → next_of roster state.gate s (standing state s) ≡ Some m.planned
next_where_may roster gate events state s seq stands m =
    rw (stands.each s, stands.gateway)
    (next_again roster gate s (standing_after s events) m.planned (record { plan = m.plan; session = m.session; own = m.own; idle = m.idle; further = m.further }))

all_known : (roster : Roster) (gate : ℕ) (events : List Event) (state : State) (waited : List After) → StandsFor roster gate events state
    → AllByRecursion (λ after. after.seq ≤ known after.session events) waited → list_all (knows state) waited ≡ true
all_known roster gate events state [] stands all = refl
all_known roster gate events state (after ∷ waited) stands all =
    let here : after.seq ≤ (standing state after.session).known = rw (stands.each after.session) all.0 in
    rw (le-leb after.seq (standing state after.session).known here) (all_known roster gate events state waited stands all.1)

known_all : (roster : Roster) (gate : ℕ) (events : List Event) (state : State) (waited : List After) → StandsFor roster gate events state
    → list_all (knows state) waited ≡ true → AllByRecursion (λ after. after.seq ≤ known after.session events) waited
known_all roster gate events state [] stands all = tt
known_all roster gate events state (after ∷ waited) stands all =
    let parts = and_parts (knows state after) (list_all (knows state) waited) all in
    let here : after.seq ≤ (standing state after.session).known = leb-true after.seq (standing state after.session).known parts.0 in
    (rw (stands.each after.session) at here, known_all roster gate events state waited stands parts.1)

-- where nothing comes next, nothing may begin
pub none_next : (roster : Roster) (gate : ℕ) (events : List Event) (state : State) (s seq : ℕ) (stands : Standing) → stands ≡ standing state s
    → next_of roster state.gate s stands ≡ None → StandsFor roster gate events state → MayBegin roster gate events s seq → ⊥
none_next roster gate events state s seq stands is none h m =
    let some : next_of roster state.gate s stands ≡ Some m.planned = rw is (next_where_may roster gate events state s seq h m) in absurd cc

-- in a session that is not in the roster nothing may begin
pub none_past : (roster : Roster) (gate : ℕ) (events : List Event) (state : State) (s seq : ℕ) → length state.standings ≤ s
    → StandsFor roster gate events state → MayBegin roster gate events s seq → ⊥
none_past roster gate events state s seq past h m = omega (arith, h.count, slice_get_within roster.sessions s m.plan m.session)

-- where something is waited for, nothing may begin
pub none_waited : (roster : Roster) (gate : ℕ) (events : List Event) (state : State) (s seq : ℕ) (stands : Standing) (planned : Planned) → stands ≡ standing state s
    → next_of roster state.gate s stands ≡ Some planned → list_all (knows state) planned.after ≡ false → StandsFor roster gate events state → MayBegin roster gate events s seq → ⊥
none_waited roster gate events state s seq stands planned is next waits h m =
    let some : next_of roster state.gate s stands ≡ Some m.planned = rw is (next_where_may roster gate events state s seq h m) in
    let same : ◌≡◌ {A = Option Planned} (Some planned) (Some m.planned) = sym next ∙ some in
    let one : planned ≡ m.planned = cc in
    let all : list_all (knows state) planned.after ≡ true = rw one (all_known roster gate events state m.planned.after h m.waited) in
    absurd cc

-- the command that comes next, with nothing waited for, may begin
pub may_begin : (roster : Roster) (gate : ℕ) (events : List Event) (state : State) (s : ℕ) (stands : Standing) (planned : Planned) → stands ≡ standing state s
    → next_of roster state.gate s stands ≡ Some planned → list_all (knows state) planned.after ≡ true → StandsFor roster gate events state → MayBegin roster gate events s (stands.begun + 1)
may_begin roster gate events state s stands planned is next known h =
    let here : stands ≡ standing_after s events = is ∙ h.each s in
    let q : ComesNext roster gate s (standing_after s events) planned = next_takes roster gate s (standing_after s events) planned (rw (here, h.gateway) at next) in
    record {
      plan = q.plan;
      session = q.session;
      own = q.own;
      idle = q.idle;
      next = ap (λ (x : Standing). x.begun + 1) here;
      planned = planned;
      further = q.further;
      waited = known_all roster gate events state planned.after h known;
    }

are_short : (plans : List SessionPlan) → AllByRecursion (λ plan. length plan.planned ≤ most_commands) plans → list_all is_short plans ≡ true
are_short [] all = refl
are_short (plan ∷ plans) all = rw (le-leb (length plan.planned) most_commands all.0) (are_short plans all.1)

short_all : (plans : List SessionPlan) → list_all is_short plans ≡ true → AllByRecursion (λ plan. length plan.planned ≤ most_commands) plans
short_all [] e = tt
short_all (plan ∷ plans) e =
    let parts = and_parts (is_short plan) (list_all is_short plans) e in
    (leb-true (length plan.planned) most_commands parts.0, short_all plans parts.1)

-- what the test of the sessions tells, where there are few
pub roster_by_test : (roster : Roster) (b : Bool) → length roster.sessions ≤ 64 → b ≡ list_all is_short roster.sessions → IsTrue b ↔ IsRoster roster
roster_by_test roster b few e =
    (λ t. record { few = few; short = short_all roster.sessions (sym e ∙ t) }, λ h. e ∙ are_short roster.sessions h.short)

plan_short : (plans : List SessionPlan) (s : ℕ) (plan : SessionPlan) → AllByRecursion (λ plan. length plan.planned ≤ most_commands) plans → slice_get plans s ≡ Some plan → length plan.planned ≤ most_commands
plan_short plans s plan all here =
    subst (λ (p : SessionPlan). length p.planned ≤ most_commands) (get_or_from_slice_get plans s plan plan here)
    (all_at (λ p. length p.planned ≤ most_commands) plans s plan (slice_get_within plans s plan here) all)

-- what comes next is idle, and its number fits
pub next_idle : (roster : Roster) (gate s : ℕ) (stands : Standing) (planned : Planned) → IsRoster roster → next_of roster gate s stands ≡ Some planned
    → (stands.begun ≡ stands.replied) × (stands.begun + 1 < 2 ^ 32)
next_idle roster gate s stands planned small next =
    let q = next_takes roster gate s stands planned next in
    let short = plan_short roster.sessions s q.plan small.short q.session in
    (q.idle, omega (arith, short, slice_get_within q.plan.planned stands.begun planned q.further))

-- where a command comes next, the session's next command may be noted as begun
pub may_note : (roster : Roster) (state : State) (s : ℕ) (stands : Standing) (planned : Planned) → IsRoster roster → Has state s → stands ≡ standing state s
    → next_of roster state.gate s stands ≡ Some planned → IsIdle state s × (stands.begun + 1 ≡ (standing state s).begun + 1)
may_note roster state s stands planned small there is next =
    let q = next_idle roster state.gate s stands planned small next in (
      record {
        there = there;
        idle = subst (λ (x : Standing). x.begun ≡ x.replied) is q.0;
        room = subst (λ (x : Standing). x.begun + 1 < 2 ^ 32) is q.1;
      },
      ap (λ (x : Standing). x.begun + 1) is,
    )
