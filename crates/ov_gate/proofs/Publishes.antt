-- A gateway that publishes its marks.
use Rattle.std.proofs.Common.{◌≡◌, ℕ, ◌+◌, ◌-◌, ◌<◌, ◌≤◌, ◌^◌, max, zero, suc, false, ◌==◌, Some, None, List, [], ◌∷◌, length, refl, sym, ap, ◌∙◌, arith, inl, inr}
use Rattle.std.specs.Prelude.{if◌then◌else◌}
use Rattle.std.proofs.lemmas.Bool.{le-ltb, lt-ltb}
use Rattle.std.proofs.lemmas.Bool.Decides.{eqb_tells}
use Rattle.ov_base.specs.Version.{number, time_of}
use Rattle.ov_gossip.specs.Marks.{mark_at, greater, greatest, low_time, low_of}
use Rattle.ov_gossip.specs.declared.marks.Marks.{Marks}
use Rattle.ov_gossip.proofs.Leasts.{greatest_above}
use Rattle.ov_topology.specs.Shape.{gates}
use Rattle.ov_topology.specs.declared.actor.Actor.{Actor}
use Rattle.ov_topology.specs.declared.actor.Actor.TheVariants.{Gate}
use Rattle.ov_event.specs.declared.kind.Kind.TheVariants.{Published}
use Rattle.ov_history.specs.Past.{History}
use Rattle.ov_history.specs.Draws.{last}
use Rattle.ov_history.specs.Marks.{mark, marks, top_time, own_marks, lacks_quorum, lacks_copies, lacks_reply}
use Rattle.ov_history.specs.Gives.{Publish, time_at, vector_to, gives}
use Rattle.ov_history.specs.May.{Setting}
use Rattle.ov_history.specs.Cores.{kept, Steps}
use Rattle.ov_history.proofs.Given.{vector_made}
use Rattle.ov_gate.specs.Calls.{own_kept}
use Rattle.ov_gate.specs.Gate.{GateState, IsGate, is_published}
use Rattle.ov_gate.specs.Tracker.{Rises}
use Rattle.ov_gate.specs.declared.tracked.Mark.TheVariants.{Low, Full, Done}
use Rattle.ov_gate.proofs.Kept.{lowest_kept}
use Rattle.ov_gate.proofs.Changes.{by_gate, published_leaves}
use Rattle.ov_gate.proofs.Stands.{some_steps, none_steps}
use Rattle.ov_gossip.proofs.Greater.{greater_swap}
use Rattle.ov_gate.proofs.Calls.{tracked_on}

-- ---- the greatest time of a low mark

greatest_under : (f : Marks → ℕ) (xs : List Marks) (b : ℕ) → ((k : ℕ) → k < length xs → f (mark_at xs k) ≤ b) → greatest f xs ≤ b
greatest_under f [] b each = omega arith
greatest_under f (x ∷ xs) b each =
    let here : f x ≤ b = each 0 (omega arith) in
    let rest = greatest_under f xs b (λ k less. each (suc k) (omega (arith, less))) in
    omega (arith, here, rest)

top_above : (a : Actor) (h : History) (n k : ℕ) → k < n → time_of (mark low_of a k h) ≤ top_time a n h
top_above a h zero k less = absurd (omega (arith, less))
top_above a h (suc n) k less =
    elim (eqb_tells k n) [
      | inl same ↦ let here : time_of (mark low_of a k h) ≡ time_of (mark low_of a n h) = ap (λ m. time_of (mark low_of a m h)) same.1 in omega (arith, here)
      | inr other ↦ let rest = top_above a h n k (omega (arith, less, other.1)) in omega (arith, rest)
    ]

top_under : (a : Actor) (h : History) (n b : ℕ) → ((k : ℕ) → k < n → time_of (mark low_of a k h) ≤ b) → top_time a n h ≤ b
top_under a h zero b each = omega arith
top_under a h (suc n) b each = let here = each n (omega arith) in let rest = top_under a h n b (λ k less. each k (omega (arith, less))) in omega (arith, here, rest)

-- the greatest of a vector that has the known marks is the greatest that is known
pub top_same : (g n : ℕ) (h : History) (vector : List Marks) → length vector ≡ n → ((k : ℕ) → k < n → mark_at vector k ≡ marks (Gate g) k h) → greatest low_time vector ≡ top_time (Gate g) n h
top_same g n h vector width known =
    let up = greatest_under low_time vector (top_time (Gate g) n h) (λ k less. rw (known k (omega (arith, less, width))) (top_above (Gate g) h n k (omega (arith, less, width)))) in
    let down = top_under (Gate g) h n (greatest low_time vector) (λ k less. rw (sym (ap low_time (known k less))) (greatest_above low_time vector k (omega (arith, less, width)))) in
    omega (arith, up, down)

-- ---- the vector

-- the marks that are kept are those of the history
pub own_is : (t : Setting) (h : History) (actor : Actor) (gate : GateState) (time : ℕ) → IsGate t h actor gate → own_kept gate.gate time gate.tracked ≡ own_marks t.topology gate.gate time h
own_is t h actor gate time is =
    let low = lowest_kept t.topology gate.gate h gate.latest Low (lacks_quorum t.topology gate.gate h) (number time gate.gate) (λ drawn one tracks. tracks.quorum_is) gate.tracked is.tracked_are in
    let full = lowest_kept t.topology gate.gate h gate.latest Full (lacks_copies t.topology gate.gate h) (number time gate.gate) (λ drawn one tracks. tracks.copies_is) gate.tracked is.tracked_are in
    let done = lowest_kept t.topology gate.gate h gate.latest Done (lacks_reply gate.gate h) (number time gate.gate) (λ drawn one tracks. tracks.reply_is) gate.tracked is.tracked_are in
    rw (low, full, done) refl

-- What the core makes of its marks for a time.
abbrev pub IsMade : GateState → ℕ → List Marks → Type 0
IsMade gate time vector = Rises gate.tracked → (k : ℕ) → k < length gate.vector → mark_at vector k ≡ (if k == gate.gate then own_kept gate.gate time gate.tracked else mark_at gate.vector k)

pub vector_is : (t : Setting) (h : History) (actor : Actor) (gate : GateState) (time : ℕ) (vector : List Marks) → IsGate t h actor gate → length vector ≡ length gate.vector → IsMade gate time vector
    → vector ≡ vector_to t.topology gate.gate time h (gates t.topology)
vector_is t h actor gate time vector is width made =
    vector_made t.topology gate.gate time h vector (width ∙ is.width) (λ k less. made is.tracked_rise k (omega (arith, less, is.width)) ∙ (rw (own_is t h actor gate time is, is.marks_are k less) refl))

-- ---- the call

-- the least time at which the gateway may publish
pub least_is : (t : Setting) (h : History) (actor : Actor) (gate : GateState) → IsGate t h actor gate → max (gate.last + 1) (greatest low_time gate.vector) ≡ max (last gate.gate h + 1) (top_time (Gate gate.gate) (gates t.topology) h)
least_is t h actor gate is = let top = top_same gate.gate (gates t.topology) h gate.vector is.width is.marks_are in rw (top, is.last_is) refl

pub publish_none : (t : Setting) (h : History) (actor : Actor) (gate : GateState) (clock least time : ℕ) → IsGate t h actor gate → gate.stopped ≡ false
    → least ≡ max (gate.last + 1) (greatest low_time gate.vector) → time ≡ time_at clock least → 2 ^ 47 ≤ time → Steps IsGate is_published t h actor (Publish clock) None gate
publish_none t h actor gate clock least time is running under made late =
    none_steps is_published t h actor (Publish clock) gate is (go (sym (made ∙ ap (time_at clock) (under ∙ least_is t h actor gate is))))
  where
    go : time_at clock (max (last gate.gate h + 1) (top_time (Gate gate.gate) (gates t.topology) h)) ≡ time → kept is_published (gives t h actor (Publish clock)) ≡ None
    go same = rw (is.runs.known, sym is.runs.stopped_is, running, is.actor_is, same, le-ltb time (2 ^ 47) late) refl

pub publish_steps : (t : Setting) (h : History) (actor : Actor) (gate : GateState) (clock least time : ℕ) (vector merged : List Marks) → IsGate t h actor gate → gate.stopped ≡ false
    → least ≡ max (gate.last + 1) (greatest low_time gate.vector) → time ≡ time_at clock least → time < 2 ^ 47
    → length vector ≡ length gate.vector → IsMade gate time vector → length merged ≡ length gate.vector → ((k : ℕ) → mark_at merged k ≡ greater (mark_at gate.vector k) (mark_at vector k))
    → Steps IsGate is_published t h actor (Publish clock) (Some (by_gate gate.gate (Published time vector))) (record gate { last = time - 1; vector = merged })
publish_steps t h actor gate clock least time vector merged is running under made held width vector_is_made count merges =
    some_steps is_published t h actor (Publish clock) gate (record gate { last = time - 1; vector = merged }) (Published time vector) is (go (sym (made ∙ ap (time_at clock) (under ∙ least_is t h actor gate is)))) (record {
      gate_is = refl;
      topology_is = refl;
      stopped_is = refl;
      last_is = let later : gate.last + 1 ≤ time = rw (made, under) (omega arith) in omega (arith, later);
      width = count;
      marks_are = λ k less. merges k ∙ greater_swap (mark_at gate.vector k) (mark_at vector k);
      sessions_are = is.sessions_are;
      latest_count = refl;
      tracked_are = tracked_on t h (by_gate gate.gate (Published time vector) ∷ h) actor gate is (published_leaves gate.gate h time vector);
      tracked_rise = is.tracked_rise;
      own = is.own;
      acked_early = λ v c p yet. let early = is.acked_early v c p yet in omega (arith, early);
    })
  where
    go : time_at clock (max (last gate.gate h + 1) (top_time (Gate gate.gate) (gates t.topology) h)) ≡ time → kept is_published (gives t h actor (Publish clock)) ≡ Some (by_gate gate.gate (Published time vector))
    go same = rw (is.runs.known, sym is.runs.stopped_is, running, is.actor_is, same, lt-ltb time (2 ^ 47) held) (ap (λ v. Some (by_gate gate.gate (Published time v))) (sym (vector_is t h actor gate time vector is width vector_is_made)))
