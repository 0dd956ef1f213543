-- A lawful history begins no more commands than the sessions have: those of a session begin in their order, each at most once.
use Rattle.std.proofs.Common.{◌≡◌, ◌==◌, ℕ, zero, suc, ◌+◌, ◌≤◌, ◌<◌, Bool, true, false, Some, List, [], ◌∷◌, ◌++◌, length, refl, sym, ap, subst, ◌∙◌, arith}
use Rattle.std.specs.Prelude.{if◌then◌else◌, slice_get}
use Rattle.std.proofs.lemmas.Bool.{eqb-true, eqb-false, eq-eqb}
use Rattle.std.proofs.lemmas.Option.{slice_get_within}
use Rattle.ov_topology.specs.declared.actor.Actor.{Actor}
use Rattle.ov_topology.specs.declared.actor.Actor.TheVariants.{Gate, Node, Settler}
use Rattle.ov_session.specs.Events.{Event, of_session, begun_in, begun}
use Rattle.ov_session.specs.Events as events
use Rattle.ov_session.specs.declared.plan.SessionPlan.{SessionPlan}
use Rattle.ov_event.specs.declared.entry.Entry.{Entry}
use Rattle.ov_event.specs.declared.kind.Kind.{Kind}
use Rattle.ov_event.specs.declared.kind.Kind.TheVariants as kinds
use Rattle.ov_event.specs.declared.start.Start.{Start}
use Rattle.ov_history.specs.Past.{History, tally}
use Rattle.ov_history.specs.Sessions.{events_in, events_of}
use Rattle.ov_history.specs.May.{Setting, MayStart, GateGuard, NodeGuard, SettlerGuard, Guard, Lawful}
use Rattle.ov_history.proofs.Sessions.{of_itself}
use Rattle.ov_follow.specs.Calm.{count, commands}
use Rattle.ov_complete.proofs.Gives.{begins_command}
use Rattle.ov_follow.proofs.Replies.{plan_once, of_another}

-- whether an entry begins a command of the session
abbrev begins_in : ℕ → Kind → Bool
begins_in s (kinds.Began other c start) = other == s
begins_in s other = false

-- how many commands of the session were begun
abbrev begun_of : ℕ → History → ℕ
begun_of s h = tally (λ e. begins_in s e.kind) h

-- ---- one session

-- How far a session is at its gateway: its commands began at most as often as the number of the last one says, and that number is at
-- most the one of its commands.
record IsWithin (events : List Event) (s count : ℕ) (plan : SessionPlan) : Type 0 where
  counted : count ≤ begun s events
  planned : begun s events ≤ length plan.planned

-- after its next command began
began_within : (past : List Event) (s c counted : ℕ) (plan : SessionPlan) → IsWithin past s counted plan → c ≡ begun s past + 1 → begun s past < length plan.planned
    → IsWithin (events.Begun s c ∷ past) s (1 + counted) plan
began_within past s c counted plan within next further =
    let own : of_session s s c ≡ c = of_itself s c in
    record {
      counted = omega (arith, own, within.counted, next);
      planned = omega (arith, own, further, next);
    }

-- an event by which no command of the session begins changes nothing
other_within : (past : List Event) (event : Event) (s counted : ℕ) (plan : SessionPlan) → begun_in s event ≡ 0 → IsWithin past s counted plan → IsWithin (event ∷ past) s counted plan
other_within past event s counted plan none within = record {
  counted = omega (arith, none, within.counted);
  planned = omega (arith, none, within.planned);
}

-- One more entry: the session's events at its gateway, and how many of its commands were begun.
module _ (t : Setting) (h : History) (s : ℕ) (plan : SessionPlan) (session : slice_get t.roster.sessions s ≡ Some plan) (within : IsWithin (events_of plan.gate h) s (begun_of s h) plan) where
  -- as it was, with none more
  still : IsWithin (events_of plan.gate h) s (0 + begun_of s h) plan
  still = record { counted = omega (arith, within.counted); planned = within.planned }

  -- after an entry of a gateway that begins a command
  after-began : (g other c : ℕ) (start : Start) → MayStart t h g other c start → (own mine : Bool) → (g == plan.gate) ≡ own → (other == s) ≡ mine
      → IsWithin ((if own then events.Begun other c ∷ [] else []) ++ events_of plan.gate h) s ((if mine then 1 else 0) + begun_of s h) plan
  after-began g other c start may false false is same = still
  after-began g other c start may true false is same = other_within (events_of plan.gate h) (events.Begun other c) s (0 + begun_of s h) plan (of_another s other c same) still
  after-began g other c start may own true is same = by own is
    where
      its : other ≡ s
      its = eqb-true other s same

      one : may.ready.plan ≡ plan
      one = plan_once t.roster.sessions s may.ready.plan plan (subst (λ n. slice_get t.roster.sessions n ≡ Some may.ready.plan) its may.ready.session) session

      gate : g ≡ plan.gate
      gate = sym may.ready.own ∙ ap (λ (x : SessionPlan). x.gate) one

      next : c ≡ begun s (events_of plan.gate h) + 1
      next = subst (λ n. c ≡ begun s (events_of n h) + 1) gate (subst (λ n. c ≡ begun n (events_of g h) + 1) its may.ready.next)

      less : begun other (events_of g h) < length may.ready.plan.planned
      less = slice_get_within may.ready.plan.planned (begun other (events_of g h)) may.ready.planned may.ready.further

      further : begun s (events_of plan.gate h) < length plan.planned
      further = subst (λ (x : SessionPlan). begun s (events_of plan.gate h) < length x.planned) one
          (subst (λ n. begun s (events_of n h) < length may.ready.plan.planned) gate (subst (λ n. begun n (events_of g h) < length may.ready.plan.planned) its less))

      by : (own : Bool) → (g == plan.gate) ≡ own → IsWithin ((if own then events.Begun other c ∷ [] else []) ++ events_of plan.gate h) s (1 + begun_of s h) plan
      by false is = absurd (eqb-false g plan.gate is gate)
      by true is = rw its (began_within (events_of plan.gate h) s c (begun_of s h) plan within next further)

  -- after an entry of a gateway
  after-gate : (g : ℕ) (kind : Kind) → GateGuard t h g kind
      → IsWithin ((if g == plan.gate then events_in kind else []) ++ events_of plan.gate h) s ((if begins_in s kind then 1 else 0) + begun_of s h) plan
  after-gate g (kinds.Began other c start) may = after-began g other c start may (g == plan.gate) (other == s) refl refl
  after-gate g (kinds.Replied place other c reply) may = by (g == plan.gate)
    where
      by : (own : Bool) → IsWithin ((if own then events.Replied other c reply ∷ [] else []) ++ events_of plan.gate h) s (0 + begun_of s h) plan
      by false = still
      by true = other_within (events_of plan.gate h) (events.Replied other c reply) s (0 + begun_of s h) plan refl still
  after-gate g (kinds.Told place other c) may = by (g == plan.gate)
    where
      by : (own : Bool) → IsWithin ((if own then events.Told other c ∷ [] else []) ++ events_of plan.gate h) s (0 + begun_of s h) plan
      by false = still
      by true = other_within (events_of plan.gate h) (events.Told other c) s (0 + begun_of s h) plan refl still
  after-gate g kind may = by (g == plan.gate)
    where
      by : (own : Bool) → IsWithin ((if own then [] else []) ++ events_of plan.gate h) s (0 + begun_of s h) plan
      by false = still
      by true = still

  -- after an entry of a node
  after-node : (c p : ℕ) (kind : Kind) → NodeGuard t.topology h c p kind → IsWithin (events_of plan.gate h) s ((if begins_in s kind then 1 else 0) + begun_of s h) plan
  after-node c p (kinds.Began other seq start) may = absurd may
  after-node c p kind may = still

  -- after an entry of a settler
  after-settler : (c : ℕ) (kind : Kind) → SettlerGuard t.topology h c kind → IsWithin (events_of plan.gate h) s ((if begins_in s kind then 1 else 0) + begun_of s h) plan
  after-settler c (kinds.Began other seq start) may = absurd may
  after-settler c kind may = still

  -- after an entry
  after-entry : (a : Actor) (kind : Kind) → Guard t h a kind → IsWithin (events_of plan.gate (record { actor = a; kind = kind } ∷ h)) s (begun_of s (record { actor = a; kind = kind } ∷ h)) plan
  after-entry (Gate g) kind may = after-gate g kind may
  after-entry (Node c p) kind may = after-node c p kind may
  after-entry (Settler c) kind may = after-settler c kind may

-- how far each session of a lawful history is
within_plan : (t : Setting) (h : History) (s : ℕ) (plan : SessionPlan) → slice_get t.roster.sessions s ≡ Some plan → Lawful t h → IsWithin (events_of plan.gate h) s (begun_of s h) plan
within_plan t [] s plan session lawful = record { counted = omega arith; planned = omega arith }
within_plan t (e ∷ h) s plan session lawful = after-entry t h s plan session (within_plan t h s plan session lawful.0) e.actor e.kind lawful.1.guard

-- at most as many commands of a session begin as it has
begun_of_plan : (t : Setting) (h : History) (s : ℕ) (plan : SessionPlan) → slice_get t.roster.sessions s ≡ Some plan → Lawful t h → begun_of s h ≤ length plan.planned
begun_of_plan t h s plan session lawful =
    let within = within_plan t h s plan session lawful in
    omega (arith, within.counted, within.planned)

-- ---- all sessions

-- how many commands of these sessions were begun; the first has this number
abbrev begun_from : ℕ → List SessionPlan → History → ℕ
begun_from s [] h = 0
begun_from s (plan ∷ plans) h = begun_of s h + begun_from (s + 1) plans h

-- there are at most as many as commands, where it is so of each
from_few : (s : ℕ) (plans : List SessionPlan) (h : History) → ((i k : ℕ) (plan : SessionPlan) → k ≡ s + i → slice_get plans i ≡ Some plan → begun_of k h ≤ length plan.planned)
    → begun_from s plans h ≤ count plans
from_few s [] h few = omega arith
from_few s (plan ∷ plans) h few =
    let first : begun_of s h ≤ length plan.planned = few 0 s plan (omega arith) refl in
    let rest : begun_from (s + 1) plans h ≤ count plans = from_few (s + 1) plans h (λ i k other is here. few (suc i) k other (omega (arith, is)) here) in
    omega (arith, first, rest)

-- there are not fewer with one more entry
from_grows : (s : ℕ) (plans : List SessionPlan) (h : History) (e : Entry) → begun_from s plans h ≤ begun_from s plans (e ∷ h)
from_grows s [] h e = omega arith
from_grows s (plan ∷ plans) h e =
    let rest : begun_from (s + 1) plans h ≤ begun_from (s + 1) plans (e ∷ h) = from_grows (s + 1) plans h e in
    let first : begun_of s h ≤ begun_of s (e ∷ h) = omega arith in
    omega (arith, first, rest)

-- there is one more where one of them begins a command
from_rises : (s i k : ℕ) (plans : List SessionPlan) (h : History) (e : Entry) → k ≡ s + i → i < length plans → begins_in k e.kind ≡ true → begun_from s plans h + 1 ≤ begun_from s plans (e ∷ h)
from_rises s i k [] h e is less passes = absurd (omega (arith, less))
from_rises s zero k (plan ∷ plans) h e is less passes =
    let same : k ≡ s = omega (arith, is) in
    let its : begins_in s e.kind ≡ true = subst (λ n. begins_in n e.kind ≡ true) same passes in
    let first : begun_of s (e ∷ h) ≡ 1 + begun_of s h = rw its refl in
    let rest : begun_from (s + 1) plans h ≤ begun_from (s + 1) plans (e ∷ h) = from_grows (s + 1) plans h e in
    omega (arith, first, rest)
from_rises s (suc i) k (plan ∷ plans) h e is less passes =
    let first : begun_of s h ≤ begun_of s (e ∷ h) = omega arith in
    let rest : begun_from (s + 1) plans h + 1 ≤ begun_from (s + 1) plans (e ∷ h) = from_rises (s + 1) i k plans h e (omega (arith, is)) (omega (arith, less)) passes in
    omega (arith, first, rest)

-- what begins is a command of a session that the roster has
begun_has : (t : Setting) (h : History) (a : Actor) (s c : ℕ) (start : Start) → Guard t h a (kinds.Began s c start) → s < length t.roster.sessions
begun_has t h (Gate g) s c start may = slice_get_within t.roster.sessions s may.ready.plan may.ready.session
begun_has t h (Node centre p) s c start may = absurd may
begun_has t h (Settler centre) s c start may = absurd may

-- each command that a lawful history begins is of one of the sessions
begun_in_all : (t : Setting) (h : History) → Lawful t h → tally begins_command h ≤ begun_from 0 t.roster.sessions h
begun_in_all t [] lawful = omega arith
begun_in_all t (e ∷ h) lawful = by e.actor e.kind lawful.1.guard (begun_in_all t h lawful.0)
  where
    by : (a : Actor) (kind : Kind) → Guard t h a kind → tally begins_command h ≤ begun_from 0 t.roster.sessions h
        → tally begins_command (record { actor = a; kind = kind } ∷ h) ≤ begun_from 0 t.roster.sessions (record { actor = a; kind = kind } ∷ h)
    by a (kinds.Began s c start) may rest =
        let more = from_rises 0 s s t.roster.sessions h (record { actor = a; kind = kinds.Began s c start }) (omega arith) (begun_has t h a s c start may) (eq-eqb s s refl) in
        omega (arith, more, rest)
    by a kind may rest =
        let more = from_grows 0 t.roster.sessions h (record { actor = a; kind = kind }) in
        omega (arith, more, rest)

-- a lawful history begins no more commands than the sessions have
pub begun_few : (t : Setting) (h : History) → Lawful t h → tally begins_command h ≤ commands t
begun_few t h lawful =
    let each : begun_from 0 t.roster.sessions h ≤ commands t = from_few 0 t.roster.sessions h few in
    let all : tally begins_command h ≤ begun_from 0 t.roster.sessions h = begun_in_all t h lawful in
    omega (arith, each, all)
  where
    few : (i k : ℕ) (plan : SessionPlan) → k ≡ 0 + i → slice_get t.roster.sessions i ≡ Some plan → begun_of k h ≤ length plan.planned
    few i k plan is here = let same : i ≡ k = omega (arith, is) in begun_of_plan t h k plan (subst (λ n. slice_get t.roster.sessions n ≡ Some plan) same here) lawful
