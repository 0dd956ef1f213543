-- No full mark is above its low mark, and no replica watermark above the visibility watermark.
use Rattle.std.proofs.Common.{◌≡◌, ◌==◌, ℕ, ◌+◌, ◌≤◌, Bool, true, false, inl, inr, Some, List, [], ◌∷◌, length, refl, sym, ap, ◌∙◌, ltb, arith}
use Rattle.std.specs.Prelude.{if◌then◌else◌}
use Rattle.std.proofs.lemmas.Bool.Decides.{eqb_tells}
use Rattle.std.proofs.lemmas.Bool.{cases_Bool, ltb-true, ltb-false}
use Rattle.ov_base.specs.Version.{number}
use Rattle.ov_gossip.specs.Marks.{mark_at, low_of, full_of}
use Rattle.ov_gossip.specs.declared.marks.Marks.{Marks}
use Rattle.ov_topology.specs.Shape.{Shape, IsShape, gates}
use Rattle.ov_topology.specs.declared.actor.Actor.{Actor}
use Rattle.ov_topology.specs.declared.actor.Actor.TheVariants.{Gate, Node, Settler}
use Rattle.ov_topology.specs.declared.place.Place.{Place}
use Rattle.ov_event.specs.declared.entry.Entry.{Entry}
use Rattle.ov_event.specs.declared.kind.Kind.{Kind}
use Rattle.ov_event.specs.declared.kind.Kind.TheVariants.{Published, Heard}
use Rattle.ov_history.specs.Past.{History, at, same_actor}
use Rattle.ov_history.specs.Draws.{Drawn}
use Rattle.ov_history.specs.Placement.{acked, ackers}
use Rattle.ov_history.specs.Marks.{mark, mark_in, mark_by, visible, replicated, lacks_quorum, lacks_copies, lowest, own_marks}
use Rattle.ov_history.specs.May.{Setting, Guard, Lawful, MayHear}
use Rattle.ov_laws.proofs.History.Gathered.{greatest_less}
use Rattle.ov_history.proofs.Counting.{weight_of_all, least_less}
use Rattle.ov_laws.proofs.History.Earlier.{letter_at}
use Rattle.ov_laws.proofs.History.Sent.{gossip_sent}
use Rattle.ov_laws.proofs.Watermarks.Known.{lowest_less, mark_past}
use Rattle.ov_laws.proofs.Watermarks.Finals.{quorum_by, copies_there}

-- a version that lacks no copy lacks no quorum
pub copies_are_quorum : (t : Shape) → IsShape t → (g : ℕ) (h : History) (drawn : Drawn) → lacks_copies t g h drawn ≡ false → lacks_quorum t g h drawn ≡ false
copies_are_quorum t shape g h drawn full = quorum_by t g h drawn (λ p inside touched.
    let all : ackers t g drawn.version p h ≡ t.centres = weight_of_all t (λ c. acked g drawn.version c p h) (copies_there t g h drawn full p inside touched) in
    omega (arith, all, shape.few_write))

-- a version that lacks a quorum lacks a copy
quorum_lacks_copies : (t : Shape) → IsShape t → (g : ℕ) (h : History) (drawn : Drawn) → lacks_quorum t g h drawn ≡ true → lacks_copies t g h drawn ≡ true
quorum_lacks_copies t shape g h drawn down = elim (cases_Bool (lacks_copies t g h drawn)) [
  | inl is ↦ is
  | inr full ↦ let none : lacks_quorum t g h drawn ≡ false = copies_are_quorum t shape g h drawn full in absurd (cc)
]

-- the full mark of each gateway in each entry is not above its low mark
abbrev pub InOrder : History → Type 0
InOrder h = (k : ℕ) (e : Entry) → at h k ≡ Some e → (g : ℕ) → mark_in full_of g e.kind ≤ mark_in low_of g e.kind

-- what an actor knows is in order where each entry is
known_in_order : (h : History) → InOrder h → (a : Actor) (g : ℕ) → mark full_of a g h ≤ mark low_of a g h
known_in_order h order a g = greatest_less (mark_by full_of a g) (mark_by low_of a g) h (λ k e there. by (same_actor a e.actor) (order k e there g))
  where
    by : {x y : ℕ} (b : Bool) → x ≤ y → (if b then x else 0) ≤ (if b then y else 0)
    by true less = less
    by false less = omega arith

-- a vector that is heard is in order where each entry is
heard_in_order : (t : Shape) (h : History) (a : Actor) (place : Place) (vector : List Marks) → InOrder h
    → MayHear t h place a vector → (g : ℕ) → full_of (mark_at vector g) ≤ low_of (mark_at vector g)
heard_in_order t h a place vector order may g =
    let there = letter_at t h place.entry place.letter _ may.sent.there in
    let sent = gossip_sent t there.0 place.letter may.sender vector there.2 in
    rw sent.1 at (order place.entry there.0 there.1 g)

-- an entry that may follow is in order where each entry is
new_in_order : (t : Setting) → IsShape t.topology → (h : History) (a : Actor) (k : Kind) → InOrder h → Guard t h a k → (g : ℕ) → mark_in full_of g k ≤ mark_in low_of g k
new_in_order t shape h (Gate s) (Published time vector) order guard g = elim (eqb_tells g s) [
  | inl same ↦
      let own : mark_at vector g ≡ own_marks t.topology s time h = ap (mark_at vector) same.1 ∙ guard.own in
      let less : lowest s (lacks_copies t.topology s h) (number time s) h ≤ lowest s (lacks_quorum t.topology s h) (number time s) h =
      lowest_less s (lacks_copies t.topology s h) (lacks_quorum t.topology s h) (number time s) h (λ drawn down. quorum_lacks_copies t.topology shape s h drawn down) in
      omega (arith, ap full_of own, ap low_of own, less)
  | inr other ↦ elim (cases_Bool (ltb g (gates t.topology))) [
    | inl inside ↦
        let known = guard.others g (ltb-true g (gates t.topology) inside) other.1 in
        let less : mark full_of (Gate s) g h ≤ mark low_of (Gate s) g h = known_in_order h order (Gate s) g in
        omega (arith, ap full_of known, ap low_of known, less)
    | inr past ↦ let none : full_of (mark_at vector g) ≡ 0 = mark_past full_of t.topology vector g refl guard.width (ltb-false g (gates t.topology) past) in omega (arith, none)
  ]
]
new_in_order t shape h (Gate s) (Heard place vector) order guard g = heard_in_order t.topology h (Gate s) place vector order guard g
new_in_order t shape h (Settler s) (Heard place vector) order guard g = heard_in_order t.topology h (Settler s) place vector order guard g
new_in_order t shape h (Node c p) (Heard place vector) order guard g = absurd guard
new_in_order t shape h (Node c p) (Published time vector) order guard g = absurd guard
new_in_order t shape h (Settler s) (Published time vector) order guard g = absurd guard
new_in_order t shape h a k order guard g = omega arith

-- each entry of a lawful history has its full marks not above its low marks
pub entries_in_order : (t : Setting) → IsShape t.topology → (h : History) → Lawful t h → InOrder h
entries_in_order t shape [] lawful k e there g = absurd (cc)
entries_in_order t shape (new ∷ h) lawful k e there g = by (k == length h + 1) there (entries_in_order t shape h lawful.0)
  where
    by : (b : Bool) → (if b then Some new else at h k) ≡ Some e → InOrder h → mark_in full_of g e.kind ≤ mark_in low_of g e.kind
    by true there order = let same : new ≡ e = cc in rw (sym same) (new_in_order t shape h new.actor new.kind order lawful.1.guard g)
    by false there order = order k e there g

-- the full mark of a gateway that an actor knows is not above its low mark
pub full_under_low : (t : Setting) → IsShape t.topology → (h : History) → Lawful t h → (a : Actor) (g : ℕ) → mark full_of a g h ≤ mark low_of a g h
full_under_low t shape h lawful a g = known_in_order h (entries_in_order t shape h lawful) a g

-- the replica watermark of an actor is not above its visibility watermark
pub replicated_under_visible : (t : Setting) → IsShape t.topology → (h : History) → Lawful t h → (a : Actor) → replicated t.topology a h ≤ visible t.topology a h
replicated_under_visible t shape h lawful a =
    least_less (λ g. mark full_of a g h) (λ g. mark low_of a g h) (mark full_of a 0 h) (mark low_of a 0 h) (gates t.topology)
    (full_under_low t shape h lawful a 0) (λ g. full_under_low t shape h lawful a g)
