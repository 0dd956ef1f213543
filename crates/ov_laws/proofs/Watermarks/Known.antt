-- The induction over the marks: what a mark that an actor knows says of the versions of its gateway.
use Rattle.std.proofs.Common.{◌≡◌, ◌==◌, ℕ, ◌+◌, ◌-◌, ◌≤◌, ◌<◌, max, Bool, true, false, inl, inr, Option, Some, None, List, [], ◌∷◌, length, sym, ap, subst, ◌∙◌, ltb, arith}
use Rattle.std.specs.Prelude.{if◌then◌else◌}
use Rattle.std.proofs.lemmas.Grind.{common_steps}
use Rattle.std.proofs.lemmas.Bool.Decides.{eqb_tells}
use Rattle.std.proofs.lemmas.Bool.{cases_Bool, ltb-true, ltb-false}
use Rattle.std.proofs.lemmas.List.{get_or_past}
use Rattle.ov_base.specs.Version.{number, time_of, gate_of}
use Rattle.ov_base.proofs.Orders.{max_either}
use Rattle.ov_gossip.specs.Marks.{mark_at, no_marks}
use Rattle.ov_gossip.specs.declared.marks.Marks.{Marks}
use Rattle.ov_topology.specs.Shape.{Shape, gates}
use Rattle.ov_topology.specs.declared.actor.Actor.{Actor}
use Rattle.ov_topology.specs.declared.actor.Actor.TheVariants.{Gate, Node, Settler}
use Rattle.ov_topology.specs.declared.place.Place.{Place}
use Rattle.ov_event.specs.declared.entry.Entry.{Entry}
use Rattle.ov_event.specs.declared.kind.Kind.{Kind}
use Rattle.ov_event.specs.declared.kind.Kind.TheVariants.{Began, Published, Heard}
use Rattle.ov_event.specs.declared.start.Start.TheVariants.{Draw}
use Rattle.ov_functor.specs.declared.command.Command.{Command}
use Rattle.ov_functor.specs.declared.command.Command.TheVariants as commands
use Rattle.ov_history.specs.Past.{History, same_actor}
use Rattle.ov_history.specs.Draws.{Drawn, draw_of, last}
use Rattle.ov_laws.specs.Draws.{Drew}
use Rattle.ov_history.specs.Marks.{mark, mark_in, mark_by, marks, lowest, lowered, own_marks}
use Rattle.ov_history.specs.May.{Setting, Guard, Lawful, StartsAs, MayPublish, MayHear}
use Rattle.ov_laws.proofs.History.Earlier.{greatest_at, letter_at}
use Rattle.ov_laws.proofs.History.Sent.{gossip_sent}

-- a version of a gateway is not below the number of a time that it reaches
number_under : (g version least : ℕ) → gate_of version ≡ g → least ≤ time_of version → number least g ≤ version
number_under g version least own late = omega (arith, own, late)

-- a draw is not below what the gateway may still draw
pub draw_late : (t : Setting) (h : History) (a : Actor) (k : Kind) (g : ℕ) (drawn : Drawn) → Guard t h a k
    → draw_of g (record { actor = a; kind = k }) ≡ Some drawn → number (last g h + 1) g ≤ drawn.version
draw_late t h (Gate s) (Began session seq (Draw version transaction)) g drawn guard drew = by guard.ready.planned.command guard.starts
  where
    by : (command : Command) → StartsAs h s session command (Draw version transaction) → number (last g h + 1) g ≤ drawn.version
    by (commands.Transact parts) starts =
        let own : gate_of version ≡ s = starts.1.own in
        let late : last s h + 1 ≤ time_of version = starts.1.time.later in
        let under : number (last s h + 1) s ≤ version = number_under s version (last s h + 1) own late in
        grind (arith, common_steps)
    by (commands.Snap keys) starts = absurd starts
draw_late t h a k g drawn guard drew = absurd (grind (arith, common_steps))

-- ---- one of the marks, with the test that holds a version down

-- The mark is 0 where nothing is said, it is what an actor knows of it, a gateway publishes it as the least of its versions that
-- are held down, and a version that is not held down stays so.
pub record IsMark (t : Shape) (which : Marks → ℕ) (lacks : ℕ → History → Drawn → Bool) : Type 0 where
  pub nothing : which no_marks ≡ 0
  pub known : (a : Actor) (g : ℕ) (h : History) → which (marks a g h) ≡ mark which a g h
  pub published : (g time : ℕ) (h : History) → which (own_marks t g time h) ≡ lowest g (lacks g h) (number time g) h
  pub stays : (g : ℕ) (e : Entry) (h : History) (drawn : Drawn) → lacks g h drawn ≡ false → lacks g (e ∷ h) drawn ≡ false

-- The mark of the gateway is good: its later draws are not below it, and none of its versions below it is held down.
pub record Good (lacks : ℕ → History → Drawn → Bool) (h : History) (g m : ℕ) : Type 0 where
  pub bounded : m ≤ number (last g h + 1) g
  pub clear : (drawn : Drawn) → Drew g drawn h → drawn.version < m → lacks g h drawn ≡ false

-- 0 is good
good_zero : {lacks : ℕ → History → Drawn → Bool} (h : History) (g : ℕ) → Good lacks h g 0
good_zero h g = record { bounded = omega arith; clear = λ drawn drew less. absurd (omega (arith, less)) }

-- what is not above a good mark is good
good_less : {lacks : ℕ → History → Drawn → Bool} (h : History) (g m n : ℕ) → Good lacks h g m → n ≤ m → Good lacks h g n
good_less h g m n good le = record {
  bounded = omega (arith, good.bounded, le);
  clear = λ drawn drew less. good.clear drawn drew (omega (arith, less, le));
}

-- the greater of two good marks is good
good_max : {lacks : ℕ → History → Drawn → Bool} (h : History) (g m n : ℕ) → Good lacks h g m → Good lacks h g n → Good lacks h g (max m n)
good_max h g m n a b = elim (max_either m n) [
  | inl e ↦ rw e a
  | inr e ↦ rw e b
]

-- an entry that may follow keeps a good mark
good_grows : {lacks : ℕ → History → Drawn → Bool} {which : Marks → ℕ} (t : Setting) → IsMark t.topology which lacks → (h : History) (a : Actor) (k : Kind) (g m : ℕ)
    → Guard t h a k → Good lacks h g m → Good lacks (record { actor = a; kind = k } ∷ h) g m
good_grows {lacks} t is h a k g m guard good = record {
  bounded = let b = good.bounded in grind arith;
  clear = λ drawn drew less. by drawn drew less;
}
  where
    by : (drawn : Drawn) → Drew g drawn (record { actor = a; kind = k } ∷ h) → drawn.version < m → lacks g (record { actor = a; kind = k } ∷ h) drawn ≡ false
    by drawn (inl new) less =
        let late : number (last g h + 1) g ≤ drawn.version = draw_late t h a k g drawn guard new in
        let b : m ≤ number (last g h + 1) g = good.bounded in
        absurd (omega (arith, late, b, less))
    by drawn (inr old) less = is.stays g _ h drawn (good.clear drawn old less)

-- ---- the mark that a gateway publishes of itself

-- the least mark is not above its start
pub lowest_top : (g : ℕ) (held : Drawn → Bool) (top : ℕ) (h : History) → lowest g held top h ≤ top
lowest_top g held top [] = omega arith
lowest_top g held top (e ∷ h) = by (draw_of g e) (lowest_top g held top h)
  where
    by : (o : Option Drawn) → lowest g held top h ≤ top → lowered held o (lowest g held top h) ≤ top
    by None rest = rest
    by (Some drawn) rest = grind (arith, common_steps)

-- the least mark is not above a version that is held down
pub lowest_held : (g : ℕ) (held : Drawn → Bool) (top : ℕ) (h : History) (drawn : Drawn) → Drew g drawn h → held drawn ≡ true → lowest g held top h ≤ drawn.version
lowest_held g held top [] drawn drew down = absurd drew
lowest_held g held top (e ∷ h) drawn (inl new) down = grind (arith, common_steps)
lowest_held g held top (e ∷ h) drawn (inr old) down = let rest : lowest g held top h ≤ drawn.version = lowest_held g held top h drawn old down in grind (arith, common_steps)

-- a test that holds more down gives a mark that is not above
pub lowest_less : (g : ℕ) (held less : Drawn → Bool) (top : ℕ) (h : History) → ((drawn : Drawn) → less drawn ≡ true → held drawn ≡ true) → lowest g held top h ≤ lowest g less top h
lowest_less g held less top [] more = omega arith
lowest_less g held less top (e ∷ h) more = by (draw_of g e) (lowest_less g held less top h more)
  where
    by : (o : Option Drawn) → lowest g held top h ≤ lowest g less top h → lowered held o (lowest g held top h) ≤ lowered less o (lowest g less top h)
    by None rest = rest
    by (Some drawn) rest = let here = more drawn in grind (arith, common_steps)

-- a gateway that publishes at a time may draw from it on
last_published : (g time : ℕ) (vector : List Marks) (h : History) → time ≤ last g (record { actor = Gate g; kind = Published time vector } ∷ h) + 1
last_published g time vector h = by (g == g) (grind (arith, common_steps))
  where
    by : (b : Bool) → b ≡ true → time ≤ max (if b then time - 1 else 0) (last g h) + 1
    by true own = omega arith
    by false own = absurd (cc)

-- the mark that a gateway publishes of itself is good
good_own : {lacks : ℕ → History → Drawn → Bool} {which : Marks → ℕ} (t : Setting) → IsMark t.topology which lacks → (h : History) (g time : ℕ) (vector : List Marks)
    → MayPublish t.topology h g time vector → Good lacks (record { actor = Gate g; kind = Published time vector } ∷ h) g (which (mark_at vector g))
good_own {lacks} {which} t is h g time vector may = record {
  bounded =
      let top : lowest g (lacks g h) (number time g) h ≤ number time g = lowest_top g (lacks g h) (number time g) h in
      let late : time ≤ last g (record { actor = Gate g; kind = Published time vector } ∷ h) + 1 = last_published g time vector h in
      omega (arith, top, late, published);
  clear = λ drawn drew less. by drawn drew less;
}
  where
    published : which (mark_at vector g) ≡ lowest g (lacks g h) (number time g) h
    published = ap which may.own ∙ is.published g time h

    by : (drawn : Drawn) → Drew g drawn (record { actor = Gate g; kind = Published time vector } ∷ h) → drawn.version < which (mark_at vector g)
        → lacks g (record { actor = Gate g; kind = Published time vector } ∷ h) drawn ≡ false
    by drawn (inl new) less = absurd (grind (arith, common_steps))
    by drawn (inr old) less = is.stays g _ h drawn (elim (cases_Bool (lacks g h drawn)) [
      | inl down ↦ let most : lowest g (lacks g h) (number time g) h ≤ drawn.version = lowest_held g (lacks g h) (number time g) h drawn old down in
          absurd (omega (arith, most, less, published))
      | inr clear ↦ clear
    ])

-- ---- the marks that an entry brings

-- a mark that is heard is not above what its sender knows
pub heard_mark : (which : Marks → ℕ) (t : Shape) (h : History) (place : Place) (a : Actor) (vector : List Marks) (may : MayHear t h place a vector) (g : ℕ)
    → which (mark_at vector g) ≤ mark which (Gate may.sender) g h
heard_mark which t h place a vector may g =
    let there = letter_at t h place.entry place.letter _ may.sent.there in
    let sent = gossip_sent t there.0 place.letter may.sender vector there.2 in
    let most : mark_by which (Gate may.sender) g there.0 ≤ mark which (Gate may.sender) g h = greatest_at (mark_by which (Gate may.sender) g) h place.entry there.0 there.1 in
    let same : mark_by which (Gate may.sender) g there.0 ≡ which (mark_at vector g) = rw sent.1 (grind (arith, common_steps)) in
    omega (arith, most, same)

-- a mark behind the gateways is nothing
pub mark_past : (which : Marks → ℕ) (t : Shape) (vector : List Marks) (g : ℕ) → which no_marks ≡ 0 → length vector ≡ gates t → gates t ≤ g → which (mark_at vector g) ≡ 0
mark_past which t vector g nothing width past = rw (get_or_past vector g no_marks (omega (arith, width, past))) nothing

-- each mark that an entry brings is good
good_new : {lacks : ℕ → History → Drawn → Bool} {which : Marks → ℕ} (t : Setting) → IsMark t.topology which lacks → (h : History) (a : Actor) (k : Kind)
    → ((b : Actor) (n : ℕ) → Good lacks h n (mark which b n h)) → Guard t h a k → (g : ℕ) → Good lacks (record { actor = a; kind = k } ∷ h) g (mark_in which g k)
good_new {lacks} {which} t is h (Gate s) (Published time vector) kept guard g = elim (eqb_tells g s) [
  | inl same ↦ let e : s ≡ g = sym same.1 in subst (λ n. Good lacks (record { actor = Gate s; kind = Published time vector } ∷ h) n (which (mark_at vector n))) e (good_own t is h s time vector guard)
  | inr other ↦ elim (cases_Bool (ltb g (gates t.topology))) [
    | inl inside ↦
        let e : which (mark_at vector g) ≡ mark which (Gate s) g h = ap which (guard.others g (ltb-true g (gates t.topology) inside) other.1) ∙ is.known (Gate s) g h in
        rw e (good_grows t is h (Gate s) (Published time vector) g (mark which (Gate s) g h) guard (kept (Gate s) g))
    | inr past ↦
        let e : which (mark_at vector g) ≡ 0 = mark_past which t.topology vector g is.nothing guard.width (ltb-false g (gates t.topology) past) in
        rw e (good_zero (record { actor = Gate s; kind = Published time vector } ∷ h) g)
  ]
]
good_new {lacks} {which} t is h (Gate s) (Heard place vector) kept guard g =
    good_grows t is h (Gate s) (Heard place vector) g (which (mark_at vector g)) guard (good_less h g _ _ (kept (Gate guard.sender) g) (heard_mark which t.topology h place (Gate s) vector guard g))
good_new {lacks} {which} t is h (Settler s) (Heard place vector) kept guard g =
    good_grows t is h (Settler s) (Heard place vector) g (which (mark_at vector g)) guard (good_less h g _ _ (kept (Gate guard.sender) g) (heard_mark which t.topology h place (Settler s) vector guard g))
good_new t is h (Node c p) (Heard place vector) kept guard g = absurd guard
good_new t is h (Node c p) (Published time vector) kept guard g = absurd guard
good_new t is h (Settler s) (Published time vector) kept guard g = absurd guard
good_new t is h a k kept guard g = good_zero (record { actor = a; kind = k } ∷ h) g

-- each mark that an actor knows is good
pub marks_good : {lacks : ℕ → History → Drawn → Bool} {which : Marks → ℕ} (t : Setting) → IsMark t.topology which lacks → (h : History) → Lawful t h
    → (a : Actor) (g : ℕ) → Good lacks h g (mark which a g h)
marks_good t is [] lawful a g = good_zero [] g
marks_good {lacks} {which} t is (e ∷ h) lawful a g = by (same_actor a e.actor) (marks_good t is h lawful.0)
  where
    by : (b : Bool) → ((b : Actor) (n : ℕ) → Good lacks h n (mark which b n h)) → Good lacks (e ∷ h) g (max (if b then mark_in which g e.kind else 0) (mark which a g h))
    by true kept = good_max (e ∷ h) g _ _ (good_new t is h e.actor e.kind kept lawful.1.guard g) (good_grows t is h e.actor e.kind g _ lawful.1.guard (kept a g))
    by false kept = good_max (e ∷ h) g _ _ (good_zero (e ∷ h) g) (good_grows t is h e.actor e.kind g _ lawful.1.guard (kept a g))
