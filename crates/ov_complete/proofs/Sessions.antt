-- How a session stands at its gateway in a lawful history: its commands begin one after another, and at most one is begun and not replied.
use Rattle.std.proofs.Common.{◌≡◌, ◌==◌, ℕ, ◌+◌, ◌≤◌, ◌<◌, Bool, true, false, Some, List, [], ◌∷◌, ◌++◌, length, refl, sym, ap, subst, ◌∙◌, arith, inl, inr}
use Rattle.std.specs.Prelude.{if◌then◌else◌, slice_get}
use Rattle.std.proofs.lemmas.Bool.{eqb-true, eq-eqb, and_parts, or_right}
use Rattle.std.proofs.lemmas.Bool.Decides.{eqb_tells}
use Rattle.ov_topology.specs.declared.actor.Actor.{Actor}
use Rattle.ov_topology.specs.declared.actor.Actor.TheVariants.{Gate, Node, Settler}
use Rattle.ov_topology.specs.declared.place.Place.{Place}
use Rattle.ov_functor.specs.declared.reply.Reply.{Reply}
use Rattle.ov_session.specs.Events.{Event, greatest, of_session, begun_in, replied_in, begun, replied}
use Rattle.ov_session.specs.Events as events
use Rattle.ov_session.specs.declared.plan.SessionPlan.{SessionPlan}
use Rattle.ov_event.specs.declared.entry.Entry.{Entry}
use Rattle.ov_event.specs.declared.kind.Kind.{Kind}
use Rattle.ov_event.specs.declared.kind.Kind.TheVariants as kinds
use Rattle.ov_event.specs.declared.start.Start.{Start}
use Rattle.ov_history.specs.Past.{History, at, before}
use Rattle.ov_history.specs.Marks.{replies}
use Rattle.ov_history.specs.Sessions.{events_in, events_of}
use Rattle.ov_history.specs.May.{Setting, MayStart, MayReply, GateGuard, Guard, Lawful}
use Rattle.ov_history.proofs.Past.{at_older, lawful_at}
use Rattle.ov_history.proofs.Sessions.{of_itself}
use Rattle.ov_follow.specs.Passes.{is_replied}
use Rattle.ov_laws.specs.Entries.{RepliedAt, began_by, replied_by}
use Rattle.ov_laws.proofs.History.Earlier.{at_newest}
use Rattle.ov_follow.proofs.Replies.{plan_once, of_another}
use Rattle.ov_laws.proofs.Sessions.Order.{event_under}
use Rattle.ov_complete.specs.Facts.{HasBegun}
use Rattle.ov_complete.proofs.Finding.{some_found}

-- ---- what events tell

-- ---- commands that began, and replies

-- a command that has begun has so in a longer history
pub begun_older : (h : History) (e : Entry) (s c : ℕ) → HasBegun h s c → HasBegun (e ∷ h) s c
begun_older h e s c has = record {
  number = has.number;
  begun = record { gate = has.begun.gate; start = has.begun.start; there = at_older h has.number (began_by has.begun.gate s c has.begun.start) e has.begun.there };
}

-- the newest entry begins its command
pub begun_newest : (h : History) (g s c : ℕ) (start : Start) → HasBegun (began_by g s c start ∷ h) s c
begun_newest h g s c start = record { number = length h + 1; begun = record { gate = g; start = start; there = at_newest h (began_by g s c start) } }

-- a command that is replied is so in a longer history
pub replied_older : (h : History) (e : Entry) (s c : ℕ) → is_replied s c h ≡ true → is_replied s c (e ∷ h) ≡ true
replied_older h e s c is = or_right (replies s c e.kind) (is_replied s c h) is

-- the newest entry replies to its command
replied_newest : (h : History) (a : Actor) (place : Place) (s c : ℕ) (reply : Reply) → is_replied s c (record { actor = a; kind = kinds.Replied place s c reply } ∷ h) ≡ true
replied_newest h a place s c reply = rw (eq-eqb s s refl, eq-eqb c c refl) refl

-- ---- one session

-- What these events of its gateway tell of a session: its commands up to the last that began have begun, those up to the last that was
-- replied are replied, and at most one is begun and not replied.
pub record Stands (events : List Event) (h : History) (s : ℕ) : Type 0 where
  pub least : replied s events ≤ begun s events
  pub most : begun s events ≤ replied s events + 1
  pub begins : (c : ℕ) → c < begun s events → HasBegun h s (c + 1)
  pub replies : (c : ℕ) → c < replied s events → is_replied s (c + 1) h ≡ true

-- it stays so with one more entry that tells nothing
stands_on : (events : List Event) (h : History) (s : ℕ) (e : Entry) → Stands events h s → Stands events (e ∷ h) s
stands_on events h s e old = record {
  least = old.least;
  most = old.most;
  begins = λ c less. begun_older h e s (c + 1) (old.begins c less);
  replies = λ c less. replied_older h e s (c + 1) (old.replies c less);
}

-- an event that tells nothing of the session changes nothing
other_stands : (past : List Event) (event : Event) (h : History) (s : ℕ) → replied_in s event ≡ 0 → begun_in s event ≡ 0 → Stands past h s → Stands (event ∷ past) h s
other_stands past event h s no_reply no_begin old = record {
  least = omega (arith, no_reply, no_begin, old.least);
  most = omega (arith, no_reply, no_begin, old.most);
  begins = λ c less. old.begins c (omega (arith, no_begin, less));
  replies = λ c less. old.replies c (omega (arith, no_reply, less));
}

-- after its next command began
began_stands : (past : List Event) (h : History) (s c : ℕ) → c ≡ begun s past + 1 → begun s past ≡ replied s past → HasBegun h s c → Stands past h s → Stands (events.Begun s c ∷ past) h s
began_stands past h s c next idle has old =
    let own : of_session s s c ≡ c = of_itself s c in
    record {
      least = omega (arith, own, next, old.least);
      most = omega (arith, own, next, idle);
      begins = λ d less. elim (eqb_tells d (begun s past)) [
        | inl last ↦ let same : c ≡ d + 1 = omega (arith, next, last.1) in subst (λ n. HasBegun h s n) same has
        | inr other ↦ old.begins d (omega (arith, own, next, less, other.1))
      ];
      replies = λ d less. old.replies d (omega (arith, less));
    }

-- after the command that began last was replied
replied_stands : (past : List Event) (h : History) (s c : ℕ) (reply : Reply) → c ≡ begun s past → c ≡ replied s past + 1 → is_replied s c h ≡ true → Stands past h s
    → Stands (events.Replied s c reply ∷ past) h s
replied_stands past h s c reply last next has old =
    let own : of_session s s c ≡ c = of_itself s c in
    record {
      least = omega (arith, own, last, next);
      most = omega (arith, own, last, next);
      begins = λ d less. old.begins d (omega (arith, less));
      replies = λ d less. elim (eqb_tells d (replied s past)) [
        | inl same ↦ let is : c ≡ d + 1 = omega (arith, next, same.1) in subst (λ n. is_replied s n h ≡ true) is has
        | inr other ↦ old.replies d (omega (arith, own, next, less, other.1))
      ];
    }

-- the session's own command begins at its own gateway
pub own_gate : (t : Setting) (s g : ℕ) (plan other : SessionPlan) → slice_get t.roster.sessions s ≡ Some plan → slice_get t.roster.sessions s ≡ Some other → other.gate ≡ g → g ≡ plan.gate
own_gate t s g plan other session its own = sym own ∙ ap (λ (x : SessionPlan). x.gate) (plan_once t.roster.sessions s other plan its session)

-- One more entry: how the session stands at its gateway.
module _ (t : Setting) (h : History) (s : ℕ) (plan : SessionPlan) (session : slice_get t.roster.sessions s ≡ Some plan) (old : Stands (events_of plan.gate h) h s) where
  -- after an entry of a gateway that begins a command
  after_began : (g other c : ℕ) (start : Start) → MayStart t h g other c start → (own mine : Bool) → (g == plan.gate) ≡ own → (other == s) ≡ mine
      → Stands ((if own then events.Begun other c ∷ [] else []) ++ events_of plan.gate h) (began_by g other c start ∷ h) s
  after_began g other c start may false mine is same = stands_on (events_of plan.gate h) h s (began_by g other c start) old
  after_began g other c start may true false is same =
      other_stands (events_of plan.gate h) (events.Begun other c) (began_by g other c start ∷ h) s refl (of_another s other c same) (stands_on (events_of plan.gate h) h s (began_by g other c start) old)
  after_began g other c start may true true is same =
      let gate : g ≡ plan.gate = eqb-true g plan.gate is in
      let its : other ≡ s = eqb-true other s same in
      let next : c ≡ begun s (events_of plan.gate h) + 1 = rw (sym gate, sym its) may.ready.next in
      let idle : begun s (events_of plan.gate h) ≡ replied s (events_of plan.gate h) = rw (sym gate, sym its) may.ready.idle in
      rw its (began_stands (events_of plan.gate h) (began_by g s c start ∷ h) s c next idle (begun_newest h g s c start) (stands_on (events_of plan.gate h) h s (began_by g s c start) old))

  -- after an entry of a gateway that replies
  after_replied : (g other c : ℕ) (place : Place) (reply : Reply) → MayReply t h place g other c reply → (own mine : Bool) → (g == plan.gate) ≡ own → (other == s) ≡ mine
      → Stands ((if own then events.Replied other c reply ∷ [] else []) ++ events_of plan.gate h) (replied_by g other c place reply ∷ h) s
  after_replied g other c place reply may false mine is same = stands_on (events_of plan.gate h) h s (replied_by g other c place reply) old
  after_replied g other c place reply may true false is same =
      other_stands (events_of plan.gate h) (events.Replied other c reply) (replied_by g other c place reply ∷ h) s (of_another s other c same) refl
      (stands_on (events_of plan.gate h) h s (replied_by g other c place reply) old)
  after_replied g other c place reply may true true is same =
      let gate : g ≡ plan.gate = eqb-true g plan.gate is in
      let its : other ≡ s = eqb-true other s same in
      let last : c ≡ begun s (events_of plan.gate h) = rw (sym gate, sym its) may.begun_is in
      let next : c ≡ replied s (events_of plan.gate h) + 1 = rw (sym gate, sym its) may.next in
      rw its (replied_stands (events_of plan.gate h) (replied_by g s c place reply ∷ h) s c reply last next (replied_newest h (Gate g) place s c reply)
      (stands_on (events_of plan.gate h) h s (replied_by g s c place reply) old))

  -- after an entry of a gateway
  after_gate : (g : ℕ) (kind : Kind) → GateGuard t h g kind
      → Stands ((if g == plan.gate then events_in kind else []) ++ events_of plan.gate h) (record { actor = Gate g; kind = kind } ∷ h) s
  after_gate g (kinds.Began other c start) may = after_began g other c start may (g == plan.gate) (other == s) refl refl
  after_gate g (kinds.Replied place other c reply) may = after_replied g other c place reply may (g == plan.gate) (other == s) refl refl
  after_gate g (kinds.Told place other c) may = by (g == plan.gate) (stands_on (events_of plan.gate h) h s (record { actor = Gate g; kind = kinds.Told place other c }) old)
    where
      by : (own : Bool) → Stands (events_of plan.gate h) (record { actor = Gate g; kind = kinds.Told place other c } ∷ h) s
          → Stands ((if own then events.Told other c ∷ [] else []) ++ events_of plan.gate h) (record { actor = Gate g; kind = kinds.Told place other c } ∷ h) s
      by false still = still
      by true still = other_stands (events_of plan.gate h) (events.Told other c) (record { actor = Gate g; kind = kinds.Told place other c } ∷ h) s refl refl still
  after_gate g kind may = by (g == plan.gate) (stands_on (events_of plan.gate h) h s (record { actor = Gate g; kind = kind }) old)
    where
      by : (own : Bool) → Stands (events_of plan.gate h) (record { actor = Gate g; kind = kind } ∷ h) s → Stands ((if own then [] else []) ++ events_of plan.gate h) (record { actor = Gate g; kind = kind } ∷ h) s
      by false still = still
      by true still = still

  -- after an entry
  after_entry : (a : Actor) (kind : Kind) → Guard t h a kind → Stands (events_of plan.gate (record { actor = a; kind = kind } ∷ h)) (record { actor = a; kind = kind } ∷ h) s
  after_entry (Gate g) kind may = after_gate g kind may
  after_entry (Node c p) kind may = stands_on (events_of plan.gate h) h s (record { actor = Node c p; kind = kind }) old
  after_entry (Settler c) kind may = stands_on (events_of plan.gate h) h s (record { actor = Settler c; kind = kind }) old

-- how each session of a lawful history stands at its gateway
pub stands : (t : Setting) (h : History) (s : ℕ) (plan : SessionPlan) → slice_get t.roster.sessions s ≡ Some plan → Lawful t h → Stands (events_of plan.gate h) h s
stands t [] s plan session lawful =
    record { least = omega arith; most = omega arith; begins = λ c less. absurd (omega (arith, less)); replies = λ c less. absurd (omega (arith, less)) }
stands t (e ∷ h) s plan session lawful = after_entry t h s plan session (stands t h s plan session lawful.0) e.actor e.kind lawful.1.guard

-- ---- where a command was replied

-- where a command is replied, an entry of a gateway replies to it
pub found_reply : (t : Setting) (h : History) (s c : ℕ) → Lawful t h → is_replied s c h ≡ true → (k : ℕ) × RepliedAt h k s c
found_reply t h s c lawful is =
    let found = some_found (λ e. replies s c e.kind) h is in
    by found.number found.entry.actor found.entry.kind found.there found.passes (lawful_at t h found.number found.entry lawful found.there).guard
  where
    by : (k : ℕ) (a : Actor) (kind : Kind) → at h k ≡ Some (record { actor = a; kind = kind }) → replies s c kind ≡ true → Guard t (before k h) a kind → (k : ℕ) × RepliedAt h k s c
    by k (Gate g) (kinds.Replied place session seq reply) there passes may =
        let tests = and_parts (session == s) (seq == c) passes in
        let its : session ≡ s = eqb-true session s tests.0 in
        let same : seq ≡ c = eqb-true seq c tests.1 in
        (k, record { gate = g; place = place; reply = reply; there = there ∙ rw (its, same) refl })
    by k (Node centre p) (kinds.Replied place session seq reply) there passes may = absurd may
    by k (Settler centre) (kinds.Replied place session seq reply) there passes may = absurd may
    by k a kind there passes may = absurd cc

-- who replied to a command of the session is its gateway
pub reply_own : (t : Setting) (h : History) (k s c : ℕ) (plan : SessionPlan) → slice_get t.roster.sessions s ≡ Some plan → Lawful t h → (is : RepliedAt h k s c) → is.gate ≡ plan.gate
reply_own t h k s c plan session lawful is =
    let may = (lawful_at t h k (replied_by is.gate s c is.place is.reply) lawful is.there).guard in
    own_gate t s is.gate plan may.plan session may.session may.own

-- the gateway of a session has its replies
pub replied_there : (t : Setting) (h : History) (s c : ℕ) (plan : SessionPlan) → slice_get t.roster.sessions s ≡ Some plan → Lawful t h → is_replied s c h ≡ true → c ≤ replied s (events_of plan.gate h)
replied_there t h s c plan session lawful is =
    let found = found_reply t h s c lawful is in
    let gate : found.1.gate ≡ plan.gate = reply_own t h found.0 s c plan session lawful found.1 in
    let under : replied_in s (events.Replied s c found.1.reply) ≤ replied s (events_of found.1.gate h) =
    event_under (replied_in s) found.1.gate h found.0 (kinds.Replied found.1.place s c found.1.reply) (events.Replied s c found.1.reply) found.1.there refl in
    let own : of_session s s c ≡ c = of_itself s c in
    subst (λ n. c ≤ replied s (events_of n h)) gate (omega (arith, under, own))
