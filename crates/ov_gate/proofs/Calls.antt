-- The calls of a core, each whole: what it returns is given, and the core then stands for the longer history.
use Rattle.std.proofs.Common.{◌≡◌, ◌≢◌, ℕ, ◌+◌, ◌<◌, ◌≤◌, max, Bool, true, false, not, ◌&&◌, ◌==◌, ◌||◌, Option, Some, None, List, [], ◌∷◌, ◌++◌, length, map, get_or, refl, sym, ap, subst, ◌∙◌, arith, inl, inr, append-nil}
use Rattle.std.specs.Prelude.{if◌then◌else◌, slice_get}
use Rattle.std.proofs.lemmas.Bool.{eq-eqb, eqb-true, and_parts}
use Rattle.std.proofs.lemmas.Option.{slice_get_within}
use Rattle.std.proofs.lemmas.Bool.Decides.{eqb_tells}
use Rattle.std.proofs.lemmas.Grind.{common_steps}
use Rattle.ov_base.specs.Version.{time_of, gate_of}
use Rattle.ov_gossip.specs.Marks.{mark_at, greater}
use Rattle.ov_gossip.specs.declared.marks.Marks.{Marks}
use Rattle.ov_gossip.proofs.Greater.{greater_swap}
use Rattle.ov_topology.specs.Shape.{Shape}
use Rattle.ov_topology.specs.declared.actor.Actor.{Actor}
use Rattle.ov_topology.specs.declared.actor.Actor.TheVariants.{Gate}
use Rattle.ov_topology.specs.declared.place.Place.{Place}
use Rattle.ov_functor.specs.declared.reply.Reply.{Reply}
use Rattle.ov_session.specs.Events.{Event, begun, replied}
use Rattle.ov_session.specs.Events as events
use Rattle.ov_session.specs.Standing.{State, StandsFor, IsOpen}
use Rattle.ov_session.specs.declared.roster.Roster.{Roster}
use Rattle.ov_session.specs.declared.sessions.Standing as standings
use Rattle.ov_event.specs.declared.kind.Kind.TheVariants as kinds
use Rattle.ov_event.specs.declared.letter.Letter.TheVariants as letters
use Rattle.ov_history.specs.Past.{History, stops}
use Rattle.ov_history.specs.Letters.{letter}
use Rattle.ov_history.specs.Draws.{last}
use Rattle.ov_history.specs.Placement.{acks, acked}
use Rattle.ov_history.specs.Sessions.{events_of}
use Rattle.ov_history.specs.Gives.{Take, Stop, gate_takes, gives, is_own, is_open}
use Rattle.ov_history.specs.May.{Setting}
use Rattle.ov_history.specs.Cores.{kept, Steps}
use Rattle.ov_gate.specs.Gate.{GateState, draws, TracksAll, IsGate, is_taken, is_heard, is_replied, is_told}
use Rattle.ov_gate.specs.Calls.{Replies, tracked_replied}
use Rattle.ov_gate.specs.Tracked.{with_ack, with_reply}
use Rattle.ov_gate.specs.Tracker.{Rises, at_version}
use Rattle.ov_gate.specs.declared.tracked.Tracked.{Tracked}
use Rattle.std.specs.Option.{option_map}
use Rattle.ov_history.proofs.Cores.{gives_taken, entry_of}
use Rattle.ov_history.proofs.Given.{owned}
use Rattle.ov_gate.proofs.Kept.{Leaves, tracks_on, all_on, all_changed, rises_changed}
use Rattle.ov_gate.proofs.Changes.{by_gate, heard_leaves, told_leaves, stopped_leaves, tracks_acked, tracks_unreplied, tracks_replied}
use Rattle.ov_gate.proofs.Stands.{nothing_more, some_steps, none_steps, letter_given}

-- what is kept of the drawn versions over an entry that leaves them
pub tracked_on : (t : Setting) (h more : History) (actor : Actor) (gate : GateState) → IsGate t h actor gate → Leaves gate.gate h more → TracksAll t.topology gate.gate more gate.latest (draws gate.gate h ++ []) gate.tracked
tracked_on t h more actor gate is leaves = rw (append-nil (draws gate.gate h)) (all_on t.topology gate.gate h more gate.latest gate.latest (λ drawn one tracks. tracks_on t.topology gate.gate h more gate.latest drawn one leaves tracks) (draws gate.gate h) gate.tracked is.tracked_are)

-- ---- a stop

stop_given : (t : Setting) (h : History) (actor : Actor) (gate : GateState) → IsGate t h actor gate → gate.stopped ≡ false → kept stops (gives t h actor Stop) ≡ Some (by_gate gate.gate kinds.Stopped)
stop_given t h actor gate is running = rw (is.runs.known, sym is.runs.stopped_is, running, is.actor_is) refl

pub stop_steps : (t : Setting) (h : History) (actor : Actor) (gate : GateState) → IsGate t h actor gate → gate.stopped ≡ false
    → Steps IsGate stops t h actor Stop (Some (by_gate gate.gate kinds.Stopped)) (record gate { stopped = true })
stop_steps t h actor gate is running = some_steps stops t h actor Stop gate (record gate { stopped = true }) kinds.Stopped is (stop_given t h actor gate is running) (record {
  gate_is = refl;
  topology_is = refl;
  stopped_is = refl;
  last_is = omega arith;
  width = refl;
  marks_are = λ k less. nothing_more (mark_at gate.vector k);
  sessions_are = is.sessions_are;
  latest_count = refl;
  tracked_are = tracked_on t h _ actor gate is (stopped_leaves gate.gate h);
  tracked_rise = is.tracked_rise;
  own = is.own;
  acked_early = λ v c p yet. let early = is.acked_early v c p yet in omega (arith, early);
})

-- ---- an acknowledgement

pub acked_steps : (t : Setting) (h : History) (actor : Actor) (gate : GateState) (place : Place) (v c p : ℕ) (tracked : List Tracked) → IsGate t h actor gate → gate.stopped ≡ false
    → letter t.topology h place ≡ Some (letters.Ack v c p) → time_of v ≤ last gate.gate h → gate_of v ≡ gate.gate → (Rises gate.tracked → tracked ≡ map (at_version v (with_ack gate.topology c p)) gate.tracked)
    → Steps IsGate is_taken t h actor (Take place) (Some (by_gate gate.gate (kinds.Acked place v c p))) (record gate { tracked = tracked })
acked_steps t h actor gate place v c p tracked is running there early own made =
    let given = letter_given is_taken t h actor gate place (letters.Ack v c p) (kinds.Acked place v c p) is running there (eq-eqb gate.gate (gate_of v) (sym own)) refl refl in
    let now : tracked ≡ map (at_version v (with_ack t.topology c p)) gate.tracked = made is.tracked_rise ∙ ap (λ shape. map (at_version v (with_ack shape c p)) gate.tracked) is.topology_is in
    some_steps is_taken t h actor (Take place) gate (record gate { tracked = tracked }) (kinds.Acked place v c p) is given (record {
      gate_is = refl;
      topology_is = refl;
      stopped_is = refl;
      last_is = omega arith;
      width = refl;
      marks_are = λ k less. nothing_more (mark_at gate.vector k);
      sessions_are = is.sessions_are;
      latest_count = refl;
      tracked_are = rw (append-nil (draws gate.gate h), now) (all_changed t.topology gate.gate h (by_gate gate.gate (kinds.Acked place v c p) ∷ h) gate.latest (at_version v (with_ack t.topology c p)) (tracks_acked t.topology gate.gate h gate.latest place v c p is.runs.shape) (draws gate.gate h) gate.tracked is.tracked_are);
      tracked_rise = rw now (rises_changed (at_version v (with_ack t.topology c p)) (ack_version t.topology v c p) gate.tracked is.tracked_rise);
      own = is.own;
      acked_early = λ u d q yet. soon u d q (acks u d q (kinds.Acked place v c p)) refl yet;
    })
  where
    ack_version : (t : Shape) (v c p : ℕ) (one : Tracked) → (at_version v (with_ack t c p) one).version ≡ one.version
    ack_version t v c p one = grind (arith, common_steps)

    soon : (u d q : ℕ) (b : Bool) → acks u d q (kinds.Acked place v c p) ≡ b → (b || acked gate.gate u d q h) ≡ true → time_of u ≤ max 0 (last gate.gate h)
    soon u d q true is_ yet = let same : v ≡ u = grind (arith, common_steps) in rw (sym same) (omega (arith, early))
    soon u d q false is_ yet = let before = is.acked_early u d q yet in omega (arith, before)

-- ---- gossip

-- another gateway is not this one
pub other_gate : (sender g : ℕ) → sender ≢ g → not (g == sender) ≡ true
other_gate sender g other = elim (eqb_tells g sender) [ inl same ↦ absurd (other (sym same.1)) | inr apart ↦ rw apart.0 refl ]

pub heard_steps : (t : Setting) (h : History) (actor : Actor) (gate : GateState) (place : Place) (sender : ℕ) (sent vector : List Marks) → IsGate t h actor gate → gate.stopped ≡ false
    → letter t.topology h place ≡ Some (letters.Gossip sender sent) → sender ≢ gate.gate → length vector ≡ length gate.vector
    → ((k : ℕ) → k < length gate.vector → mark_at vector k ≡ greater (mark_at gate.vector k) (mark_at sent k))
    → Steps IsGate is_heard t h actor (Take place) (Some (by_gate gate.gate (kinds.Heard place sent))) (record gate { vector = vector })
heard_steps t h actor gate place sender sent vector is running there other width merged =
    let given = letter_given is_heard t h actor gate place (letters.Gossip sender sent) (kinds.Heard place sent) is running there (other_gate sender gate.gate other) refl refl in
    some_steps is_heard t h actor (Take place) gate (record gate { vector = vector }) (kinds.Heard place sent) is given (record {
      gate_is = refl;
      topology_is = refl;
      stopped_is = refl;
      last_is = omega arith;
      width = width;
      marks_are = λ k less. merged k less ∙ greater_swap (mark_at gate.vector k) (mark_at sent k);
      sessions_are = is.sessions_are;
      latest_count = refl;
      tracked_are = tracked_on t h (by_gate gate.gate (kinds.Heard place sent) ∷ h) actor gate is (heard_leaves gate.gate h place sent);
      tracked_rise = is.tracked_rise;
      own = is.own;
      acked_early = λ v c p yet. let early = is.acked_early v c p yet in omega (arith, early);
    })

-- ---- what is told

pub told_steps : (t : Setting) (h : History) (actor : Actor) (gate : GateState) (place : Place) (s c sender : ℕ) (sessions : State) → IsGate t h actor gate → gate.stopped ≡ false
    → letter t.topology h place ≡ Some (letters.Told s c sender) → s < length t.roster.sessions → sender ≢ gate.gate
    → ((roster : Roster) (g : ℕ) (es : List Event) → s < length roster.sessions → StandsFor roster g es gate.sessions → StandsFor roster g (events.Told s c ∷ es) sessions)
    → Steps IsGate is_told t h actor (Take place) (Some (by_gate gate.gate (kinds.Told place s c))) (record gate { sessions = sessions })
told_steps t h actor gate place s c sender sessions is running there has other tells =
    let given = letter_given is_told t h actor gate place (letters.Told s c sender) (kinds.Told place s c) is running there (other_gate sender gate.gate other) refl refl in
    some_steps is_told t h actor (Take place) gate (record gate { sessions = sessions }) (kinds.Told place s c) is given (record {
      gate_is = refl;
      topology_is = refl;
      stopped_is = refl;
      last_is = omega arith;
      width = refl;
      marks_are = λ k less. nothing_more (mark_at gate.vector k);
      sessions_are = tells t.roster gate.gate (events_of gate.gate h) has is.sessions_are;
      latest_count = refl;
      tracked_are = tracked_on t h (by_gate gate.gate (kinds.Told place s c) ∷ h) actor gate is (told_leaves gate.gate h place s c);
      tracked_rise = is.tracked_rise;
      own = λ one has. is.own one (omega (arith, has));
      acked_early = λ v d p yet. let early = is.acked_early v d p yet in omega (arith, early);
    })

-- ---- a reply

-- a command that the core has as open is open in the history
pub open_is : (t : Setting) (h : History) (actor : Actor) (gate : GateState) (s c : ℕ) → IsGate t h actor gate → IsOpen gate.sessions s c → is_open t h gate.gate s c ≡ true
open_is t h actor gate s c is open_ =
    let stands = is.sessions_are.each s in
    let begun_is : begun s (events_of gate.gate h) ≡ c = ap (λ (o : standings.Standing). o.begun) (sym stands) ∙ open_.begun in
    let replied_is : replied s (events_of gate.gate h) + 1 ≡ c = ap (λ (o : standings.Standing). o.replied + 1) (sym stands) ∙ open_.next in
    let own = is.own s (omega (arith, begun_is, replied_is)) in
    rw (own, eq-eqb (begun s (events_of gate.gate h)) c begun_is, eq-eqb (replied s (events_of gate.gate h) + 1) c replied_is) refl

-- and the other way round
pub is_open_back : (t : Setting) (h : History) (actor : Actor) (gate : GateState) (s c : ℕ) → IsGate t h actor gate → is_open t h gate.gate s c ≡ true → IsOpen gate.sessions s c
is_open_back t h actor gate s c is test =
    let parts = and_parts (is_own gate.gate (slice_get t.roster.sessions s)) ((begun s (events_of gate.gate h) == c) && (replied s (events_of gate.gate h) + 1 == c)) test in
    let tests = and_parts (begun s (events_of gate.gate h) == c) (replied s (events_of gate.gate h) + 1 == c) parts.1 in
    let plan = owned gate.gate (slice_get t.roster.sessions s) parts.0 in
    let stands = is.sessions_are.each s in
    record {
      there = let less = slice_get_within t.roster.sessions s plan.0 plan.1 in omega (arith, less, is.sessions_are.count);
      begun = ap (λ (o : standings.Standing). o.begun) stands ∙ eqb-true (begun s (events_of gate.gate h)) c tests.0;
      next = ap (λ (o : standings.Standing). o.replied + 1) stands ∙ eqb-true (replied s (events_of gate.gate h) + 1) c tests.1;
    }

-- none is given for a result that is not to the gateway, or to a command that is not open
pub replied_none : (t : Setting) (h : History) (actor : Actor) (gate : GateState) (place : Place) (s c to : ℕ) (reply : Reply) → IsGate t h actor gate → letter t.topology h place ≡ Some (letters.Result s c to reply)
    → (gate.stopped ≡ false → to ≡ gate.gate → IsOpen gate.sessions s c → ⊥) → Steps IsGate is_replied t h actor (Take place) None gate
replied_none t h actor gate place s c to reply is there not_so =
    none_steps is_replied t h actor (Take place) gate is (ap (kept is_replied) (gives_taken t h actor gate.stopped place (letters.Result s c to reply) is.runs there) ∙ (rw is.actor_is (by gate.stopped refl (gate.gate == to) refl (is_open t h gate.gate s c) refl)))
  where
    by : (a : Bool) → gate.stopped ≡ a → (b : Bool) → (gate.gate == to) ≡ b → (d : Bool) → is_open t h gate.gate s c ≡ d
        → kept is_replied (if a then None else (if b then option_map (entry_of (Gate gate.gate)) (if d then Some (kinds.Replied place s c reply) else None) else None)) ≡ None
    by true stopped b own d open_ = refl
    by false running false own d open_ = refl
    by false running true own false open_ = refl
    by false running true own true open_ = absurd (not_so running (sym (eqb-true gate.gate to own)) (is_open_back t h actor gate s c is open_))

pub replied_steps : (t : Setting) (h : History) (actor : Actor) (gate new : GateState) (place : Place) (s c to : ℕ) (reply : Reply) → IsGate t h actor gate → gate.stopped ≡ false
    → letter t.topology h place ≡ Some (letters.Result s c to reply) → to ≡ gate.gate → IsOpen gate.sessions s c → Replies gate s c reply new
    → Steps IsGate is_replied t h actor (Take place) (Some (by_gate gate.gate (kinds.Replied place s c reply))) new
replied_steps t h actor gate new place s c to reply is running there own open_ replies =
    let test = open_is t h actor gate s c is open_ in
    let takes : gate_takes t h gate.gate place (letters.Result s c to reply) ≡ Some (kinds.Replied place s c reply) = rw test refl in
    let given = letter_given is_replied t h actor gate place (letters.Result s c to reply) (kinds.Replied place s c reply) is running there (eq-eqb gate.gate to (sym own)) takes refl in
    let begun_is : c ≡ begun s (events_of gate.gate h) = sym open_.begun ∙ ap (λ (o : standings.Standing). o.begun) (is.sessions_are.each s) in
    let made = replies.tracked_are is.tracked_rise in
    subst (λ one. Steps IsGate is_replied t h actor (Take place) (Some (by_gate gate.gate (kinds.Replied place s c reply))) one) (sym replies.rest)
    (some_steps is_replied t h actor (Take place) gate (record gate { sessions = new.sessions; tracked = new.tracked }) (kinds.Replied place s c reply) is given (record {
      gate_is = refl;
      topology_is = refl;
      stopped_is = refl;
      last_is = omega arith;
      width = refl;
      marks_are = λ k less. nothing_more (mark_at gate.vector k);
      sessions_are = replies.sessions_are t.roster gate.gate (events_of gate.gate h) is.sessions_are;
      latest_count = refl;
      tracked_are = rw (append-nil (draws gate.gate h), made) (all (get_or gate.latest s None) refl begun_is);
      tracked_rise = rw made (rise (get_or gate.latest s None));
      own = λ one has. is.own one (omega (arith, has));
      acked_early = λ v d p yet. let early = is.acked_early v d p yet in omega (arith, early);
    }))
  where
    all : (o : Option ℕ) → get_or gate.latest s None ≡ o → c ≡ begun s (events_of gate.gate h)
        → TracksAll t.topology gate.gate (by_gate gate.gate (kinds.Replied place s c reply) ∷ h) gate.latest (draws gate.gate h) (tracked_replied o s c gate.tracked)
    all None latest begun_is = all_on t.topology gate.gate h (by_gate gate.gate (kinds.Replied place s c reply) ∷ h) gate.latest gate.latest (tracks_unreplied t.topology gate.gate h gate.latest place s c reply begun_is latest) (draws gate.gate h) gate.tracked is.tracked_are
    all (Some v) latest begun_is = all_changed t.topology gate.gate h (by_gate gate.gate (kinds.Replied place s c reply) ∷ h) gate.latest (at_version v (with_reply s c)) (tracks_replied t.topology gate.gate h gate.latest place s c reply v begun_is latest) (draws gate.gate h) gate.tracked is.tracked_are

    reply_version : (v : ℕ) (one : Tracked) → (at_version v (with_reply s c) one).version ≡ one.version
    reply_version v one = grind (arith, common_steps)

    rise : (o : Option ℕ) → Rises (tracked_replied o s c gate.tracked)
    rise None = is.tracked_rise
    rise (Some v) = rises_changed (at_version v (with_reply s c)) (reply_version v) gate.tracked is.tracked_rise
