-- A lawful history has no more replies than the sessions have commands: each session is replied at most as often as it has commands.
use Rattle.std.proofs.Common.{◌≡◌, ◌==◌, ℕ, zero, suc, ◌+◌, ◌≤◌, ◌<◌, Bool, true, false, Option, Some, List, [], ◌∷◌, ◌++◌, length, refl, sym, ap, subst, ◌∙◌, arith}
use Rattle.std.specs.Prelude.{if◌then◌else◌, slice_get}
use Rattle.std.proofs.lemmas.Bool.{eqb-true, eqb-false, eq-eqb}
use Rattle.std.proofs.lemmas.Option.{slice_get_within}
use Rattle.ov_topology.specs.declared.actor.Actor.{Actor}
use Rattle.ov_topology.specs.declared.actor.Actor.TheVariants.{Gate, Node, Settler}
use Rattle.ov_topology.specs.declared.place.Place.{Place}
use Rattle.ov_functor.specs.declared.reply.Reply.{Reply}
use Rattle.ov_session.specs.Events.{Event, of_session, begun_in, replied_in, begun, replied}
use Rattle.ov_session.specs.Events as events
use Rattle.ov_session.specs.declared.plan.SessionPlan.{SessionPlan}
use Rattle.ov_event.specs.declared.entry.Entry.{Entry}
use Rattle.ov_event.specs.declared.kind.Kind.{Kind}
use Rattle.ov_event.specs.declared.kind.Kind.TheVariants as kinds
use Rattle.ov_event.specs.declared.start.Start.{Start}
use Rattle.ov_history.specs.Past.{History, tally}
use Rattle.ov_history.specs.Sessions.{events_in, events_of}
use Rattle.ov_history.specs.May.{Setting, MayStart, MayReply, GateGuard, NodeGuard, SettlerGuard, Guard, Lawful}
use Rattle.ov_follow.specs.Calm.{count, commands, replies}
use Rattle.ov_history.proofs.Sessions.{of_itself}

-- whether an entry replies to a command of the session
abbrev replies_in : ℕ → Kind → Bool
replies_in s (kinds.Replied place other c reply) = other == s
replies_in s other = false

-- how many replies to commands of the session there are
abbrev replies_to : ℕ → History → ℕ
replies_to s h = tally (λ e. replies_in s e.kind) h

-- ---- one session

-- How far a session is at its gateway: it is replied at most as often as the number of its last reply says, that number is at most
-- the one of the command that began last, and this one is at most the number of its commands.
record IsWithin (events : List Event) (s count : ℕ) (plan : SessionPlan) : Type 0 where
  counted : count ≤ replied s events
  open_one : replied s events ≤ begun s events
  planned : begun s events ≤ length plan.planned

-- a session has one plan
pub plan_once : (plans : List SessionPlan) (s : ℕ) (plan other : SessionPlan) → slice_get plans s ≡ Some plan → slice_get plans s ≡ Some other → plan ≡ other
plan_once plans s plan other one two =
    let both : ◌≡◌ {A = Option SessionPlan} (Some plan) (Some other) = sym one ∙ two in
    cc

-- after its next command began
began_within : (past : List Event) (s c counted : ℕ) (plan : SessionPlan) → IsWithin past s counted plan → c ≡ begun s past + 1 → begun s past < length plan.planned
    → IsWithin (events.Begun s c ∷ past) s counted plan
began_within past s c counted plan within next further =
    let own : of_session s s c ≡ c = of_itself s c in
    record {
      counted = omega (arith, within.counted);
      open_one = omega (arith, own, within.open_one, next);
      planned = omega (arith, own, further, next);
    }

-- after the command that began last was replied
replied_within : (past : List Event) (s c counted : ℕ) (reply : Reply) (plan : SessionPlan) → IsWithin past s counted plan → c ≡ begun s past → c ≡ replied s past + 1
    → IsWithin (events.Replied s c reply ∷ past) s (1 + counted) plan
replied_within past s c counted reply plan within is next =
    let own : of_session s s c ≡ c = of_itself s c in
    record {
      counted = omega (arith, own, within.counted, next);
      open_one = omega (arith, own, within.open_one, is);
      planned = omega (arith, within.planned);
    }

-- what is told of a session changes nothing
told_within : (past : List Event) (s other c counted : ℕ) (plan : SessionPlan) → IsWithin past s counted plan → IsWithin (events.Told other c ∷ past) s counted plan
told_within past s other c counted plan within = record {
  counted = omega (arith, within.counted);
  open_one = omega (arith, within.open_one);
  planned = omega (arith, within.planned);
}

-- an event of another session changes nothing
other_within : (past : List Event) (event : Event) (s counted : ℕ) (plan : SessionPlan) → replied_in s event ≡ 0 → begun_in s event ≡ 0 → IsWithin past s counted plan → IsWithin (event ∷ past) s counted plan
other_within past event s counted plan no_reply no_begin within = record {
  counted = omega (arith, no_reply, within.counted);
  open_one = omega (arith, no_reply, no_begin, within.open_one);
  planned = omega (arith, no_begin, within.planned);
}

-- a number of another session does not count
pub of_another : (s other n : ℕ) → (other == s) ≡ false → of_session s other n ≡ 0
of_another s other n differs = rw differs refl

-- One more entry: the session's events at its gateway, and how often it is replied.
module _ (t : Setting) (h : History) (s : ℕ) (plan : SessionPlan) (session : slice_get t.roster.sessions s ≡ Some plan) (within : IsWithin (events_of plan.gate h) s (replies_to s h) plan) where
  -- as it was, with no further reply
  still : IsWithin (events_of plan.gate h) s (0 + replies_to s h) plan
  still = record { counted = omega (arith, within.counted); open_one = within.open_one; planned = within.planned }

  -- after an entry of a gateway that begins a command
  after-began : (g other c : ℕ) (start : Start) → MayStart t h g other c start → (own mine : Bool) → (g == plan.gate) ≡ own → (other == s) ≡ mine
      → IsWithin ((if own then events.Begun other c ∷ [] else []) ++ events_of plan.gate h) s (0 + replies_to s h) plan
  after-began g other c start may false mine is same = still
  after-began g other c start may true false is same = other_within (events_of plan.gate h) (events.Begun other c) s (0 + replies_to s h) plan refl (of_another s other c same) still
  after-began g other c start may true true is same =
      let gate : g ≡ plan.gate = eqb-true g plan.gate is in
      let its : other ≡ s = eqb-true other s same in
      let next : c ≡ begun s (events_of plan.gate h) + 1 = rw (sym gate, sym its) may.ready.next in
      let one : may.ready.plan ≡ plan = plan_once t.roster.sessions s may.ready.plan plan (rw (sym its) may.ready.session) session in
      let less : begun other (events_of g h) < length may.ready.plan.planned = slice_get_within may.ready.plan.planned (begun other (events_of g h)) may.ready.planned may.ready.further in
      let further : begun s (events_of plan.gate h) < length plan.planned = rw (sym gate, sym its, sym one) less in
      rw its (began_within (events_of plan.gate h) s c (0 + replies_to s h) plan still next further)

  -- after an entry of a gateway that replies
  after-replied : (g other c : ℕ) (place : Place) (reply : Reply) → MayReply t h place g other c reply → (own mine : Bool) → (g == plan.gate) ≡ own → (other == s) ≡ mine
      → IsWithin ((if own then events.Replied other c reply ∷ [] else []) ++ events_of plan.gate h) s ((if mine then 1 else 0) + replies_to s h) plan
  after-replied g other c place reply may false false is same = still
  after-replied g other c place reply may true false is same = other_within (events_of plan.gate h) (events.Replied other c reply) s (0 + replies_to s h) plan (of_another s other c same) refl still
  after-replied g other c place reply may own true is same = by own is
    where
      its : other ≡ s
      its = eqb-true other s same

      one : may.plan ≡ plan
      one = plan_once t.roster.sessions s may.plan plan (subst (λ n. slice_get t.roster.sessions n ≡ Some may.plan) its may.session) session

      gate : g ≡ plan.gate
      gate = sym may.own ∙ ap (λ (x : SessionPlan). x.gate) one

      last : c ≡ begun s (events_of plan.gate h)
      last = subst (λ n. c ≡ begun s (events_of n h)) gate (subst (λ n. c ≡ begun n (events_of g h)) its may.begun_is)

      next : c ≡ replied s (events_of plan.gate h) + 1
      next = subst (λ n. c ≡ replied s (events_of n h) + 1) gate (subst (λ n. c ≡ replied n (events_of g h) + 1) its may.next)

      by : (own : Bool) → (g == plan.gate) ≡ own → IsWithin ((if own then events.Replied other c reply ∷ [] else []) ++ events_of plan.gate h) s (1 + replies_to s h) plan
      by false is = absurd (eqb-false g plan.gate is gate)
      by true is = rw its (replied_within (events_of plan.gate h) s c (replies_to s h) reply plan within last next)

  -- after an entry of a gateway
  after-gate : (g : ℕ) (kind : Kind) → GateGuard t h g kind
      → IsWithin ((if g == plan.gate then events_in kind else []) ++ events_of plan.gate h) s ((if replies_in s kind then 1 else 0) + replies_to s h) plan
  after-gate g (kinds.Began other c start) may = after-began g other c start may (g == plan.gate) (other == s) refl refl
  after-gate g (kinds.Replied place other c reply) may = after-replied g other c place reply may (g == plan.gate) (other == s) refl refl
  after-gate g (kinds.Told place other c) may = by (g == plan.gate)
    where
      by : (own : Bool) → IsWithin ((if own then events.Told other c ∷ [] else []) ++ events_of plan.gate h) s (0 + replies_to s h) plan
      by false = still
      by true = told_within (events_of plan.gate h) s other c (0 + replies_to s h) plan still
  after-gate g kind may = by (g == plan.gate)
    where
      by : (own : Bool) → IsWithin ((if own then [] else []) ++ events_of plan.gate h) s (0 + replies_to s h) plan
      by false = still
      by true = still

  -- after an entry of a node
  after-node : (c p : ℕ) (kind : Kind) → NodeGuard t.topology h c p kind → IsWithin (events_of plan.gate h) s ((if replies_in s kind then 1 else 0) + replies_to s h) plan
  after-node c p (kinds.Replied place other seq reply) may = absurd may
  after-node c p kind may = still

  -- after an entry of a settler
  after-settler : (c : ℕ) (kind : Kind) → SettlerGuard t.topology h c kind → IsWithin (events_of plan.gate h) s ((if replies_in s kind then 1 else 0) + replies_to s h) plan
  after-settler c (kinds.Replied place other seq reply) may = absurd may
  after-settler c kind may = still

  -- after an entry
  after-entry : (a : Actor) (kind : Kind) → Guard t h a kind → IsWithin (events_of plan.gate (record { actor = a; kind = kind } ∷ h)) s (replies_to s (record { actor = a; kind = kind } ∷ h)) plan
  after-entry (Gate g) kind may = after-gate g kind may
  after-entry (Node c p) kind may = after-node c p kind may
  after-entry (Settler c) kind may = after-settler c kind may

-- how far each session of a lawful history is
within_plan : (t : Setting) (h : History) (s : ℕ) (plan : SessionPlan) → slice_get t.roster.sessions s ≡ Some plan → Lawful t h → IsWithin (events_of plan.gate h) s (replies_to s h) plan
within_plan t [] s plan session lawful = record { counted = omega arith; open_one = omega arith; planned = omega arith }
within_plan t (e ∷ h) s plan session lawful = after-entry t h s plan session (within_plan t h s plan session lawful.0) e.actor e.kind lawful.1.guard

-- a session is replied at most as often as it has commands
replies_of_plan : (t : Setting) (h : History) (s : ℕ) (plan : SessionPlan) → slice_get t.roster.sessions s ≡ Some plan → Lawful t h → replies_to s h ≤ length plan.planned
replies_of_plan t h s plan session lawful =
    let within = within_plan t h s plan session lawful in
    omega (arith, within.counted, within.open_one, within.planned)

-- ---- all sessions

-- how many replies to commands of these sessions there are; the first has this number
abbrev replies_from : ℕ → List SessionPlan → History → ℕ
replies_from s [] h = 0
replies_from s (plan ∷ plans) h = replies_to s h + replies_from (s + 1) plans h

-- there are at most as many as commands, where it is so of each
from_few : (s : ℕ) (plans : List SessionPlan) (h : History) → ((i k : ℕ) (plan : SessionPlan) → k ≡ s + i → slice_get plans i ≡ Some plan → replies_to k h ≤ length plan.planned)
    → replies_from s plans h ≤ count plans
from_few s [] h few = omega arith
from_few s (plan ∷ plans) h few =
    let first : replies_to s h ≤ length plan.planned = few 0 s plan (omega arith) refl in
    let rest : replies_from (s + 1) plans h ≤ count plans = from_few (s + 1) plans h (λ i k other is here. few (suc i) k other (omega (arith, is)) here) in
    omega (arith, first, rest)

-- there are not fewer with one more entry
from_grows : (s : ℕ) (plans : List SessionPlan) (h : History) (e : Entry) → replies_from s plans h ≤ replies_from s plans (e ∷ h)
from_grows s [] h e = omega arith
from_grows s (plan ∷ plans) h e =
    let rest : replies_from (s + 1) plans h ≤ replies_from (s + 1) plans (e ∷ h) = from_grows (s + 1) plans h e in
    let first : replies_to s h ≤ replies_to s (e ∷ h) = omega arith in
    omega (arith, first, rest)

-- there is one more with a reply to one of them
from_rises : (s i k : ℕ) (plans : List SessionPlan) (h : History) (e : Entry) → k ≡ s + i → i < length plans → replies_in k e.kind ≡ true → replies_from s plans h + 1 ≤ replies_from s plans (e ∷ h)
from_rises s i k [] h e is less passes = absurd (omega (arith, less))
from_rises s zero k (plan ∷ plans) h e is less passes =
    let same : k ≡ s = omega (arith, is) in
    let its : replies_in s e.kind ≡ true = subst (λ n. replies_in n e.kind ≡ true) same passes in
    let first : replies_to s (e ∷ h) ≡ 1 + replies_to s h = rw its refl in
    let rest : replies_from (s + 1) plans h ≤ replies_from (s + 1) plans (e ∷ h) = from_grows (s + 1) plans h e in
    omega (arith, first, rest)
from_rises s (suc i) k (plan ∷ plans) h e is less passes =
    let first : replies_to s h ≤ replies_to s (e ∷ h) = omega arith in
    let rest : replies_from (s + 1) plans h + 1 ≤ replies_from (s + 1) plans (e ∷ h) = from_rises (s + 1) i k plans h e (omega (arith, is)) (omega (arith, less)) passes in
    omega (arith, first, rest)

-- a reply is to a command of a session that the roster has
reply_has : (t : Setting) (h : History) (a : Actor) (place : Place) (s c : ℕ) (reply : Reply) → Guard t h a (kinds.Replied place s c reply) → s < length t.roster.sessions
reply_has t h (Gate g) place s c reply may = slice_get_within t.roster.sessions s may.plan may.session
reply_has t h (Node centre p) place s c reply may = absurd may
reply_has t h (Settler centre) place s c reply may = absurd may

-- each reply of a lawful history is to a command of one of the sessions
replies_in_all : (t : Setting) (h : History) → Lawful t h → replies h ≤ replies_from 0 t.roster.sessions h
replies_in_all t [] lawful = omega arith
replies_in_all t (e ∷ h) lawful = by e.actor e.kind lawful.1.guard (replies_in_all t h lawful.0)
  where
    by : (a : Actor) (kind : Kind) → Guard t h a kind → replies h ≤ replies_from 0 t.roster.sessions h
        → replies (record { actor = a; kind = kind } ∷ h) ≤ replies_from 0 t.roster.sessions (record { actor = a; kind = kind } ∷ h)
    by a (kinds.Replied place s c reply) may rest =
        let more = from_rises 0 s s t.roster.sessions h (record { actor = a; kind = kinds.Replied place s c reply }) (omega arith) (reply_has t h a place s c reply may) (eq-eqb s s refl) in
        omega (arith, more, rest)
    by a kind may rest =
        let more = from_grows 0 t.roster.sessions h (record { actor = a; kind = kind }) in
        omega (arith, more, rest)

-- a lawful history has no more replies than the sessions have commands
pub replies_few : (t : Setting) (h : History) → Lawful t h → replies h ≤ commands t
replies_few t h lawful =
    let each : replies_from 0 t.roster.sessions h ≤ commands t = from_few 0 t.roster.sessions h few in
    let all : replies h ≤ replies_from 0 t.roster.sessions h = replies_in_all t h lawful in
    omega (arith, each, all)
  where
    few : (i k : ℕ) (plan : SessionPlan) → k ≡ 0 + i → slice_get t.roster.sessions i ≡ Some plan → replies_to k h ≤ length plan.planned
    few i k plan is here = let same : i ≡ k = omega (arith, is) in replies_of_plan t h k plan (subst (λ n. slice_get t.roster.sessions n ≡ Some plan) same here) lawful
