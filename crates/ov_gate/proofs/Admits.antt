-- What a core tests of an entry, and when it may follow.
use Rattle.std.proofs.Common.{◌≡◌, ◌≢◌, ℕ, ◌+◌, ◌<◌, max, Bool, true, IsTrue, ◌↔◌, ◌==◌, ◌&&◌, Option, Some, List, length, refl, sym, subst, ◌∙◌, inl, inr}
use Rattle.std.specs.Prelude.{if◌then◌else◌, slice_get}
use Rattle.std.proofs.lemmas.Bool.{eq-eqb, eqb-true, and_parts}
use Rattle.std.proofs.lemmas.Bool.Decides.{eqb_tells}
use Rattle.ov_functor.specs.declared.reply.Reply.{Reply}
use Rattle.ov_gossip.specs.declared.marks.Marks.{Marks}
use Rattle.ov_topology.specs.Shape.{gates}
use Rattle.ov_topology.specs.declared.actor.Actor.{Actor}
use Rattle.ov_topology.specs.declared.actor.Actor.TheVariants.{Gate}
use Rattle.ov_topology.specs.declared.place.Place.{Place}
use Rattle.ov_session.specs.Events.{begun, replied}
use Rattle.ov_session.specs.Standing.{MayBegin, IsOpen}
use Rattle.ov_session.specs.declared.planned.Planned.{Planned}
use Rattle.ov_session.specs.declared.roster.Roster.{Roster}
use Rattle.ov_event.specs.declared.letter.Letter.{Letter}
use Rattle.ov_event.specs.declared.letter.Letter.TheVariants as letters
use Rattle.ov_event.specs.declared.start.Start.{Start}
use Rattle.ov_history.specs.Past.{History}
use Rattle.ov_history.specs.Letters.{letter}
use Rattle.ov_history.specs.Draws.{last}
use Rattle.ov_history.specs.Marks.{marks, top_time, own_marks}
use Rattle.ov_history.specs.Sessions.{events_of}
use Rattle.ov_history.specs.Gives.{ready, vector_to, is_own, is_open}
use Rattle.ov_history.specs.May.{Setting, IsTime, StartsAs, MayStart, MayPublish, MayReply}
use Rattle.ov_history.proofs.Given.{vector_length, vector_at, owned, gate_known}
use Rattle.ov_history.proofs.Giving.{may_ready, vector_back}
use Rattle.ov_gate.specs.Gate.{GateState, IsGate}
use Rattle.ov_gate.proofs.Begins.{ready_for}
use Rattle.ov_gate.proofs.Calls.{open_is, is_open_back}
use Rattle.ov_gate.proofs.Publishes.{IsMade, vector_is}

-- the test of the start says whether the command that may begin may begin so
pub start_iff : (t : Setting) (roster : Roster) (h : History) (g s c : ℕ) (start : Start) (b : Bool) → t.roster ≡ roster → (m : MayBegin roster g (events_of g h) s c)
    → (IsTrue b ↔ StartsAs h g s m.planned.command start) → IsTrue b ↔ MayStart t h g s c start
start_iff t roster h g s c start b same m test = (
  λ passes. subst (λ r. MayStart (record { topology = t.topology; roster = r }) h g s c start) (sym same) (record { ready = m; starts = test.0 passes }),
  λ may. test.1 (back may),
)
  where
    back : MayStart t h g s c start → StartsAs h g s m.planned.command start
    back may =
        let one : ready t h g s ≡ Some may.ready.planned = may_ready t h g s c may.ready in
        let other : ready t h g s ≡ Some m.planned = ready_for t roster h g s c same m in
        let planned : may.ready.planned ≡ m.planned = cc in
        subst (λ (p : Planned). StartsAs h g s p.command start) planned may.starts

-- a vector may be published at an allowed time where it is the one that the core makes
pub publish_iff : (t : Setting) (h : History) (actor : Actor) (gate : GateState) (time : ℕ) (vector made : List Marks) (b : Bool) → IsGate t h actor gate
    → IsTime (max (last gate.gate h + 1) (top_time (Gate gate.gate) (gates t.topology) h)) time → length made ≡ length gate.vector → IsMade gate time made → gate.gate < gates t.topology
    → (IsTrue b ↔ (vector ≡ made)) → IsTrue b ↔ MayPublish t.topology h gate.gate time vector
publish_iff t h actor gate time vector made b is at width makes known test = (
  λ passes. subst (λ v. MayPublish t.topology h gate.gate time v) (sym (test.0 passes ∙ given)) (record {
    at = at;
    width = vector_length t.topology gate.gate time h (gates t.topology);
    others = λ k less other. vector_at t.topology gate.gate time h (gates t.topology) k less ∙ apart k other;
    own = vector_at t.topology gate.gate time h (gates t.topology) gate.gate known ∙ (rw (eq-eqb gate.gate gate.gate refl) refl);
  }),
  λ may. test.1 (sym (vector_back t.topology h gate.gate time vector may) ∙ sym given),
)
  where
    given : made ≡ vector_to t.topology gate.gate time h (gates t.topology)
    given = vector_is t h actor gate time made is width makes

    apart : (k : ℕ) → k ≢ gate.gate → (if k == gate.gate then own_marks t.topology gate.gate time h else marks (Gate gate.gate) k h) ≡ marks (Gate gate.gate) k h
    apart k other = elim (eqb_tells k gate.gate) [ inl same ↦ absurd (other same.1) | inr differs ↦ rw differs.0 refl ]

-- a reply may be given where the letter has it and the command is open
pub reply_iff : (t : Setting) (h : History) (actor : Actor) (gate : GateState) (place : Place) (s c : ℕ) (reply : Reply) (o : Option Letter) (b : Bool) → IsGate t h actor gate → o ≡ letter t.topology h place
    → (IsTrue b ↔ ((o ≡ Some (letters.Result s c gate.gate reply)) × IsOpen gate.sessions s c)) → IsTrue b ↔ MayReply t h place gate.gate s c reply
reply_iff t h actor gate place s c reply o b is there test = (
  λ passes. make (test.0 passes),
  λ may. test.1 (there ∙ may.sent.there, is_open_back t h actor gate s c is (open_may may)),
)
  where
    open_may : MayReply t h place gate.gate s c reply → is_open t h gate.gate s c ≡ true
    open_may may = rw (may.session, eq-eqb may.plan.gate gate.gate may.own, eq-eqb (begun s (events_of gate.gate h)) c (sym may.begun_is), eq-eqb (replied s (events_of gate.gate h) + 1) c (sym may.next)) refl

    make : (o ≡ Some (letters.Result s c gate.gate reply)) × IsOpen gate.sessions s c → MayReply t h place gate.gate s c reply
    make both =
        let open_ = open_is t h actor gate s c is both.1 in
        let parts = and_parts (is_own gate.gate (slice_get t.roster.sessions s)) ((begun s (events_of gate.gate h) == c) && (replied s (events_of gate.gate h) + 1 == c)) open_ in
        let tests = and_parts (begun s (events_of gate.gate h) == c) (replied s (events_of gate.gate h) + 1 == c) parts.1 in
        let plan = owned gate.gate (slice_get t.roster.sessions s) parts.0 in
        record {
          sent = record { there = sym there ∙ both.0; addressed = eq-eqb gate.gate gate.gate refl };
          plan = plan.0;
          session = plan.1;
          own = plan.2;
          begun_is = sym (eqb-true (begun s (events_of gate.gate h)) c tests.0);
          next = sym (eqb-true (replied s (events_of gate.gate h) + 1) c tests.1);
        }

-- the gateway has a place among those of the topology
pub gate_there : (t : Setting) (h : History) (actor : Actor) (gate : GateState) → IsGate t h actor gate → gate.gate < gates t.topology
gate_there t h actor gate is = gate_known t.topology gate.gate (rw is.actor_is at is.runs.known)
