-- The histories that a core stands for, after one more entry of its gateway.
use Rattle.std.proofs.Common.{◌≡◌, ℕ, ◌<◌, ◌≤◌, max, Bool, true, false, ◌||◌, Some, None, ◌∷◌, ◌++◌, length, refl, sym, ap, subst, ◌∙◌, arith}
use Rattle.std.specs.Prelude.{slice_get}
use Rattle.std.proofs.lemmas.Bool.{eq-eqb}
use Rattle.ov_base.specs.Version.{time_of}
use Rattle.ov_gossip.specs.Marks.{mark_at, greater, no_marks, low_of, full_of, done_of}
use Rattle.ov_gossip.specs.declared.marks.Marks.{Marks}
use Rattle.ov_topology.specs.declared.actor.Actor.{Actor}
use Rattle.ov_topology.specs.declared.actor.Actor.TheVariants.{Gate}
use Rattle.ov_topology.specs.declared.place.Place.{Place}
use Rattle.ov_session.specs.Events.{begun}
use Rattle.ov_session.specs.Standing.{StandsFor}
use Rattle.ov_event.specs.Letters.{is_for}
use Rattle.ov_event.specs.declared.kind.Kind.{Kind}
use Rattle.ov_event.specs.declared.letter.Letter.{Letter}
use Rattle.ov_history.specs.Past.{History, stops}
use Rattle.ov_history.specs.Letters.{letter}
use Rattle.ov_history.specs.Draws.{drawn_in, time_in, last}
use Rattle.ov_history.specs.Placement.{acks, acked}
use Rattle.ov_history.specs.Marks.{mark_in, mark, marks}
use Rattle.ov_history.specs.Sessions.{events_in, events_of}
use Rattle.ov_history.specs.Gives.{Act, Take, gate_takes, gives, is_own}
use Rattle.ov_history.specs.May.{Setting}
use Rattle.ov_history.specs.Cores.{kept, Runs, Steps}
use Rattle.ov_history.proofs.Cores.{steps, gives_taken}
use Rattle.ov_gate.specs.Gate.{GateState, listed, draws, TracksAll, IsGate}
use Rattle.ov_gate.specs.Tracker.{Rises}
use Rattle.ov_gate.proofs.Changes.{by_gate}

-- ---- one more entry of the gateway

module _ (g : ℕ) (kind : Kind) (h : History) where
  abbrev one_more : History
  one_more = by_gate g kind ∷ h

  pub events_more : events_of g one_more ≡ events_in kind ++ events_of g h
  events_more = rw (eq-eqb g g refl) refl

  pub last_more : last g one_more ≡ max (time_in kind) (last g h)
  last_more = rw (eq-eqb g g refl) refl

  pub draws_more : draws g one_more ≡ draws g h ++ listed (drawn_in kind)
  draws_more = rw (eq-eqb g g refl) refl

  pub acked_more : (v c p : ℕ) → acked g v c p one_more ≡ (acks v c p kind || acked g v c p h)
  acked_more v c p = rw (eq-eqb g g refl) refl

  mark_more : (which : Marks → ℕ) (k : ℕ) → mark which (Gate g) k one_more ≡ max (mark_in which k kind) (mark which (Gate g) k h)
  mark_more which k = rw (eq-eqb g g refl) refl

-- the marks of a gateway that an entry tells
abbrev pub marks_in : ℕ → Kind → Marks
marks_in k kind = record { low = mark_in low_of k kind; full = mark_in full_of k kind; done = mark_in done_of k kind }

pub marks_more : (g : ℕ) (kind : Kind) (h : History) (k : ℕ) → marks (Gate g) k (by_gate g kind ∷ h) ≡ greater (marks_in k kind) (marks (Gate g) k h)
marks_more g kind h k = rw (mark_more g kind h low_of k, mark_more g kind h full_of k, mark_more g kind h done_of k) refl

-- where nothing is told the marks are as they were
pub nothing_more : (m : Marks) → m ≡ greater no_marks m
nothing_more m = let a : max 0 m.low ≡ m.low = omega arith in let b : max 0 m.full ≡ m.full = omega arith in let c : max 0 m.done ≡ m.done = omega arith in rw (a, b, c) refl

-- whether an actor has stopped, after one more entry
runs_more : (t : Setting) (h : History) (g : ℕ) (was is_ : Bool) (kind : Kind) → is_ ≡ (stops kind || was) → Runs t h (Gate g) was → Runs t (by_gate g kind ∷ h) (Gate g) is_
runs_more t h g was is_ kind now runs = record {
  shape = runs.shape;
  known = runs.known;
  stopped_is = rw (eq-eqb g g refl, now, runs.stopped_is) refl;
}

-- What a core is after an entry of this kind, in words of what it was.
pub record Goes (t : Setting) (h : History) (gate new : GateState) (kind : Kind) : Type 0 where
  pub gate_is : new.gate ≡ gate.gate
  pub topology_is : new.topology ≡ gate.topology
  pub stopped_is : new.stopped ≡ (stops kind || gate.stopped)
  pub last_is : new.last ≡ max (time_in kind) gate.last
  pub width : length new.vector ≡ length gate.vector
  pub marks_are : (k : ℕ) → k < length gate.vector → mark_at new.vector k ≡ greater (marks_in k kind) (mark_at gate.vector k)
  pub sessions_are : StandsFor t.roster gate.gate (events_in kind ++ events_of gate.gate h) new.sessions
  pub latest_count : length new.latest ≡ length gate.latest
  pub tracked_are : TracksAll t.topology gate.gate (by_gate gate.gate kind ∷ h) new.latest (draws gate.gate h ++ listed (drawn_in kind)) new.tracked
  pub tracked_rise : Rises new.tracked
  pub own : (s : ℕ) → 0 < begun s (events_in kind ++ events_of gate.gate h) → is_own gate.gate (slice_get t.roster.sessions s) ≡ true
  pub acked_early : (v c p : ℕ) → (acks v c p kind || acked gate.gate v c p h) ≡ true → time_of v ≤ max (time_in kind) (last gate.gate h)

-- then it stands for the history with that entry
pub goes_stands : (t : Setting) (h : History) (actor : Actor) (gate new : GateState) (kind : Kind) → IsGate t h actor gate → Goes t h gate new kind → IsGate t (by_gate gate.gate kind ∷ h) actor new
goes_stands t h actor gate new kind is goes = rw is.actor_is (record {
  actor_is = ap Gate (sym goes.gate_is);
  runs = runs_more t h gate.gate gate.stopped new.stopped kind goes.stopped_is (rw is.actor_is at is.runs);
  topology_is = goes.topology_is ∙ is.topology_is;
  last_is = goes.last_is ∙ (ap (max (time_in kind)) is.last_is ∙ (sym (last_more gate.gate kind h) ∙ ap (λ n. last n (by_gate gate.gate kind ∷ h)) (sym goes.gate_is)));
  width = goes.width ∙ is.width;
  marks_are = λ k less. goes.marks_are k (omega (arith, less, is.width)) ∙ (ap (greater (marks_in k kind)) (is.marks_are k less) ∙ (sym (marks_more gate.gate kind h k) ∙ ap (λ n. marks (Gate n) k (by_gate gate.gate kind ∷ h)) (sym goes.gate_is)));
  sessions_are = subst (λ n. StandsFor t.roster n (events_of n (by_gate gate.gate kind ∷ h)) new.sessions) (sym goes.gate_is) (subst (λ es. StandsFor t.roster gate.gate es new.sessions) (sym (events_more gate.gate kind h)) goes.sessions_are);
  latest_count = goes.latest_count ∙ is.latest_count;
  tracked_are = subst (λ n. TracksAll t.topology n (by_gate gate.gate kind ∷ h) new.latest (draws n (by_gate gate.gate kind ∷ h)) new.tracked) (sym goes.gate_is) (subst (λ ds. TracksAll t.topology gate.gate (by_gate gate.gate kind ∷ h) new.latest ds new.tracked) (sym (draws_more gate.gate kind h)) goes.tracked_are);
  tracked_rise = goes.tracked_rise;
  own = subst (λ n. (s : ℕ) → 0 < begun s (events_of n (by_gate gate.gate kind ∷ h)) → is_own n (slice_get t.roster.sessions s) ≡ true) (sym goes.gate_is) (subst (λ es. (s : ℕ) → 0 < begun s es → is_own gate.gate (slice_get t.roster.sessions s) ≡ true) (sym (events_more gate.gate kind h)) goes.own);
  acked_early = subst (λ n. (v c p : ℕ) → acked n v c p (by_gate gate.gate kind ∷ h) ≡ true → time_of v ≤ last n (by_gate gate.gate kind ∷ h)) (sym goes.gate_is) (λ v c p yet. subst (λ m. time_of v ≤ m) (sym (last_more gate.gate kind h)) (goes.acked_early v c p (sym (acked_more gate.gate kind h v c p) ∙ yet)));
})

-- ---- a whole call

-- a call that returns what is given, and after which the core stands for the longer history
pub some_steps : (f : Kind → Bool) (t : Setting) (h : History) (actor : Actor) (act : Act) (gate new : GateState) (kind : Kind) → IsGate t h actor gate
    → kept f (gives t h actor act) ≡ Some (by_gate gate.gate kind) → Goes t h gate new kind → Steps IsGate f t h actor act (Some (by_gate gate.gate kind)) new
some_steps f t h actor act gate new kind is given goes = steps IsGate f t h actor act (Some (by_gate gate.gate kind)) new is.runs.shape (sym given) (goes_stands t h actor gate new kind is goes)

-- a call that returns none where none is given
pub none_steps : (f : Kind → Bool) (t : Setting) (h : History) (actor : Actor) (act : Act) (gate : GateState) → IsGate t h actor gate → kept f (gives t h actor act) ≡ None → Steps IsGate f t h actor act None gate
none_steps f t h actor act gate is given = steps IsGate f t h actor act None gate is.runs.shape (sym given) is

-- what a running gateway gives for a letter
pub letter_given : (f : Kind → Bool) (t : Setting) (h : History) (actor : Actor) (gate : GateState) (place : Place) (sent : Letter) (kind : Kind) → IsGate t h actor gate → gate.stopped ≡ false
    → letter t.topology h place ≡ Some sent → is_for t.topology sent (Gate gate.gate) ≡ true → gate_takes t h gate.gate place sent ≡ Some kind → f kind ≡ true
    → kept f (gives t h actor (Take place)) ≡ Some (by_gate gate.gate kind)
letter_given f t h actor gate place sent kind is running there for takes passes =
    ap (kept f) (gives_taken t h actor gate.stopped place sent is.runs there) ∙ (rw (is.actor_is, running, for, takes, passes) refl)
