-- The numbers of a lawful history have words: its marks, its watermarks, and how far its settlers have settled.
use Rattle.std.proofs.Common.{◌≡◌, ℕ, ◌^◌, ◌≤◌, ◌<◌, max, Bool, true, false, inl, inr, ltb, [], ◌∷◌, length, List, sym, ap, subst, ◌∙◌, arith}
use Rattle.std.specs.Prelude.{if◌then◌else◌}
use Rattle.std.proofs.lemmas.Bool.{cases_Bool, ltb-true, ltb-false}
use Rattle.std.proofs.lemmas.Bool.Decides.{eqb_tells}
use Rattle.std.proofs.lemmas.List.Elements.{recursion_from_All, All-from_get_or}
use Rattle.ov_base.specs.Version.{number, IsVersion}
use Rattle.ov_gossip.specs.Marks.{mark_at, no_marks, low_of, full_of, done_of}
use Rattle.ov_gossip.specs.declared.marks.Marks.{Marks}
use Rattle.ov_topology.specs.Shape.{Shape, IsShape, gates}
use Rattle.ov_topology.specs.declared.actor.Actor.{Actor}
use Rattle.ov_topology.specs.declared.actor.Actor.TheVariants.{Gate, Node, Settler}
use Rattle.ov_topology.specs.declared.mode.Mode.{Mode}
use Rattle.ov_topology.specs.declared.mode.Mode.TheVariants.{Quorum, One}
use Rattle.ov_topology.specs.declared.place.Place.{Place}
use Rattle.ov_event.specs.Letters.{is_in}
use Rattle.ov_event.specs.declared.entry.Entry.{Entry}
use Rattle.ov_event.specs.declared.kind.Kind.{Kind}
use Rattle.ov_event.specs.declared.kind.Kind.TheVariants.{Published, Heard}
use Rattle.ov_event.specs.declared.letter.Letter.TheVariants as letters
use Rattle.ov_history.specs.Past.{History, before, same_actor}
use Rattle.ov_history.specs.Draws.{Drawn}
use Rattle.ov_history.specs.Marks.{mark, mark_in, lowest}
use Rattle.ov_history.specs.Settlers.{settled}
use Rattle.ov_history.specs.May.{Setting, MayPublish, MayHear, MayAsk, Guard, Lawful, upper}
use Rattle.ov_history.proofs.Given.{gate_known}
use Rattle.ov_laws.proofs.History.Earlier.{letter_lawful}
use Rattle.ov_laws.proofs.History.Sent.{gossip_sent}
use Rattle.ov_laws.proofs.Watermarks.Known.{IsMark, lowest_top, heard_mark, mark_past}
use Rattle.ov_laws.proofs.Watermarks.Finals.{low_is_mark, full_is_mark, done_is_mark, watermark_under}
use Rattle.ov_laws.proofs.Values.Settled.{settler_stands}
use Rattle.ov_journal.specs.Line.{IsMarks, IsSpelledVector}

-- the number of a time and of a gateway of the topology has a word
number_held : (t : Shape) (g time : ℕ) → IsShape t → is_in t (Gate g) ≡ true → time < 2 ^ 47 → IsVersion (number time g)
number_held t g time shape known early =
    let inside : g < gates t = gate_known t g known in
    let few : gates t ≤ 8 = shape.few_gateways in
    omega (arith, inside, few, early)

-- the marks that an entry brings have words, where those that are known have
mark_new : {which : Marks → ℕ} {lacks : ℕ → History → Drawn → Bool} (t : Setting) → IsShape t.topology → IsMark t.topology which lacks → (h : History) (a : Actor) (k : Kind)
    → ((b : Actor) (n : ℕ) → IsVersion (mark which b n h)) → is_in t.topology a ≡ true → Guard t h a k → (g : ℕ) → IsVersion (mark_in which g k)
mark_new {which} {lacks} t shape is h (Gate s) (Published time vector) held inside guard g = elim (eqb_tells g s) [
  | inl same ↦
      let own : which (mark_at vector g) ≡ lowest s (lacks s h) (number time s) h = ap (λ (n : ℕ). which (mark_at vector n)) same.1 ∙ (ap which guard.own ∙ is.published s time h) in
      let least : lowest s (lacks s h) (number time s) h ≤ number time s = lowest_top s (lacks s h) (number time s) h in
      let top : number time s < 2 ^ 63 = number_held t.topology s time shape inside guard.at.held in
      omega (arith, own, least, top)
  | inr other ↦ elim (cases_Bool (ltb g (gates t.topology))) [
    | inl less ↦
        let same : which (mark_at vector g) ≡ mark which (Gate s) g h = ap which (guard.others g (ltb-true g (gates t.topology) less) other.1) ∙ is.known (Gate s) g h in
        let old : mark which (Gate s) g h < 2 ^ 63 = held (Gate s) g in
        omega (arith, same, old)
    | inr past ↦
        let none : which (mark_at vector g) ≡ 0 = mark_past which t.topology vector g is.nothing guard.width (ltb-false g (gates t.topology) past) in
        omega (arith, none)
  ]
]
mark_new {which} t shape is h (Gate s) (Heard place vector) held inside guard g =
    let less : which (mark_at vector g) ≤ mark which (Gate guard.sender) g h = heard_mark which t.topology h place (Gate s) vector guard g in
    let old : mark which (Gate guard.sender) g h < 2 ^ 63 = held (Gate guard.sender) g in
    omega (arith, less, old)
mark_new {which} t shape is h (Settler s) (Heard place vector) held inside guard g =
    let less : which (mark_at vector g) ≤ mark which (Gate guard.sender) g h = heard_mark which t.topology h place (Settler s) vector guard g in
    let old : mark which (Gate guard.sender) g h < 2 ^ 63 = held (Gate guard.sender) g in
    omega (arith, less, old)
mark_new t shape is h (Node c p) (Heard place vector) held inside guard g = absurd guard
mark_new t shape is h (Node c p) (Published time vector) held inside guard g = absurd guard
mark_new t shape is h (Settler s) (Published time vector) held inside guard g = absurd guard
mark_new t shape is h a k held inside guard g = omega arith

-- each mark that an actor knows has a word
marks_held : {which : Marks → ℕ} {lacks : ℕ → History → Drawn → Bool} (t : Setting) → IsShape t.topology → IsMark t.topology which lacks → (h : History) → Lawful t h
    → (a : Actor) (g : ℕ) → IsVersion (mark which a g h)
marks_held t shape is [] lawful a g = omega arith
marks_held {which} t shape is (e ∷ h) lawful a g = by (same_actor a e.actor) (marks_held t shape is h lawful.0)
  where
    by : (b : Bool) → ((b : Actor) (n : ℕ) → IsVersion (mark which b n h)) → IsVersion (max (if b then mark_in which g e.kind else 0) (mark which a g h))
    by true held =
        let new : mark_in which g e.kind < 2 ^ 63 = mark_new t shape is h e.actor e.kind held lawful.1.known lawful.1.guard g in
        let old : mark which a g h < 2 ^ 63 = held a g in
        omega (arith, new, old)
    by false held = let old : mark which a g h < 2 ^ 63 = held a g in omega (arith, old)

-- ---- vectors

-- a vector of the topology whose marks have words has words
vector_spelled : (t : Shape) (vector : List Marks) → IsShape t → length vector ≡ gates t
    → ((g : ℕ) → IsVersion (low_of (mark_at vector g)) × IsVersion (full_of (mark_at vector g)) × IsVersion (done_of (mark_at vector g))) → IsSpelledVector vector
vector_spelled t vector shape width held =
    let some : 1 ≤ gates t = shape.some_gateway in
    let few : gates t ≤ 8 = shape.few_gateways in (
      record { some = omega (arith, width, some); few = omega (arith, width, few) },
      recursion_from_All IsMarks vector (All-from_get_or IsMarks vector no_marks (λ i inside. held i)),
    )

-- the marks that an entry that may follow brings have words
brought_held : (t : Setting) → IsShape t.topology → (h : History) (a : Actor) (k : Kind) → Lawful t h → is_in t.topology a ≡ true → Guard t h a k
    → (g : ℕ) → IsVersion (mark_in low_of g k) × IsVersion (mark_in full_of g k) × IsVersion (mark_in done_of g k)
brought_held t shape h a k lawful inside guard g = (
  mark_new t shape (low_is_mark t.topology) h a k (marks_held t shape (low_is_mark t.topology) h lawful) inside guard g,
  mark_new t shape (full_is_mark t.topology) h a k (marks_held t shape (full_is_mark t.topology) h lawful) inside guard g,
  mark_new t shape (done_is_mark t.topology) h a k (marks_held t shape (done_is_mark t.topology) h lawful) inside guard g,
)

-- a vector that may be published has words
pub published_spelled : (t : Setting) → IsShape t.topology → (h : History) (g time : ℕ) (vector : List Marks) → Lawful t h → is_in t.topology (Gate g) ≡ true
    → MayPublish t.topology h g time vector → IsSpelledVector vector
published_spelled t shape h g time vector lawful inside may =
    vector_spelled t.topology vector shape may.width (brought_held t shape h (Gate g) (Published time vector) lawful inside may)

-- a vector that may be heard is as long as the topology has gateways
heard_width : (t : Setting) (h : History) (place : Place) (a : Actor) (vector : List Marks) → Lawful t h → MayHear t.topology h place a vector → length vector ≡ gates t.topology
heard_width t h place a vector lawful may =
    let found = letter_lawful t h place (letters.Gossip may.sender vector) lawful may.sent.there in
    let sent = gossip_sent t.topology found.0 place.letter may.sender vector found.2 in
    let publishes : MayPublish t.topology (before place.entry h) may.sender sent.0 vector
    = subst (λ (e : Entry). Guard t (before place.entry h) e.actor e.kind) sent.1 found.3.guard in
    publishes.width

-- a vector that a gateway may hear has words
pub gate_heard : (t : Setting) → IsShape t.topology → (h : History) (place : Place) (g : ℕ) (vector : List Marks) → Lawful t h → is_in t.topology (Gate g) ≡ true
    → MayHear t.topology h place (Gate g) vector → IsSpelledVector vector
gate_heard t shape h place g vector lawful inside may =
    vector_spelled t.topology vector shape (heard_width t h place (Gate g) vector lawful may) (brought_held t shape h (Gate g) (Heard place vector) lawful inside may)

-- and one that a settler may hear
pub settler_heard : (t : Setting) → IsShape t.topology → (h : History) (place : Place) (s : ℕ) (vector : List Marks) → Lawful t h → is_in t.topology (Settler s) ≡ true
    → MayHear t.topology h place (Settler s) vector → IsSpelledVector vector
settler_heard t shape h place s vector lawful inside may =
    vector_spelled t.topology vector shape (heard_width t h place (Settler s) vector lawful may) (brought_held t shape h (Settler s) (Heard place vector) lawful inside may)

-- ---- watermarks

-- the watermarks have words
upper_held : (t : Setting) → IsShape t.topology → (h : History) (s : ℕ) (mode : Mode) → Lawful t h → IsVersion (upper t.topology s h mode)
upper_held t shape h s Quorum lawful =
    let some : 1 ≤ gates t.topology = shape.some_gateway in
    let under : upper t.topology s h Quorum ≤ mark low_of (Settler s) 0 h = watermark_under low_of t.topology (Settler s) h 0 (omega (arith, some)) in
    let held : mark low_of (Settler s) 0 h < 2 ^ 63 = marks_held t shape (low_is_mark t.topology) h lawful (Settler s) 0 in
    omega (arith, under, held)
upper_held t shape h s One lawful =
    let some : 1 ≤ gates t.topology = shape.some_gateway in
    let under : upper t.topology s h One ≤ mark full_of (Settler s) 0 h = watermark_under full_of t.topology (Settler s) h 0 (omega (arith, some)) in
    let held : mark full_of (Settler s) 0 h < 2 ^ 63 = marks_held t shape (full_is_mark t.topology) h lawful (Settler s) 0 in
    omega (arith, under, held)

-- so does how far a settler has settled
pub settled_held : (t : Setting) → IsShape t.topology → (h : History) (s : ℕ) → Lawful t h → IsVersion (settled s h)
settled_held t shape h s lawful =
    let under : settled s h ≤ upper t.topology s h Quorum = (settler_stands t shape h s lawful).high in
    let held : upper t.topology s h Quorum < 2 ^ 63 = upper_held t shape h s Quorum lawful in
    omega (arith, under, held)

-- and so do both ends of a round that may be asked for
pub ends_held : (t : Setting) → IsShape t.topology → (h : History) (s round : ℕ) (mode : Mode) (from below : ℕ) → Lawful t h → MayAsk t.topology h s round mode from below
    → IsVersion from × IsVersion below
ends_held t shape h s round mode from below lawful may = (
  subst (λ (n : ℕ). IsVersion n) (sym may.from_is) (settled_held t shape h s lawful),
  subst (λ (n : ℕ). IsVersion n) (sym may.below_is) (upper_held t shape h s mode lawful),
)
