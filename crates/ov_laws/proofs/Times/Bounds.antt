-- The times of a lawful history: within the range of clocks, or above it by at most one for each entry that may move a clock.
use Rattle.std.proofs.Common.{◌≡◌, ◌==◌, ℕ, zero, suc, ◌+◌, ◌^◌, ◌≤◌, ◌<◌, max, Bool, true, false, inl, inr, Some, List, [], ◌∷◌, length, refl, sym, ap, subst, ◌∙◌, ltb, arith}
use Rattle.std.specs.Prelude.{if◌then◌else◌}
use Rattle.std.proofs.lemmas.Grind.{common_steps}
use Rattle.std.proofs.lemmas.Bool.Decides.{eqb_tells}
use Rattle.std.proofs.lemmas.Bool.{cases_Bool, ltb-true, ltb-false}
use Rattle.ov_base.specs.Version.{number, time_of}
use Rattle.ov_functor.specs.declared.command.Command.{Command}
use Rattle.ov_functor.specs.declared.command.Command.TheVariants as commands
use Rattle.ov_gossip.specs.Marks.{mark_at, low_of}
use Rattle.ov_gossip.specs.declared.marks.Marks.{Marks}
use Rattle.ov_topology.specs.Shape.{Shape, IsShape, gates}
use Rattle.ov_topology.specs.declared.actor.Actor.{Actor}
use Rattle.ov_topology.specs.declared.actor.Actor.TheVariants.{Gate, Node, Settler}
use Rattle.ov_event.specs.Letters.{is_in, is_gate}
use Rattle.ov_event.specs.declared.entry.Entry.{Entry}
use Rattle.ov_event.specs.declared.kind.Kind.{Kind}
use Rattle.ov_event.specs.declared.kind.Kind.TheVariants.{Began, Published, Heard}
use Rattle.ov_event.specs.declared.start.Start.TheVariants.{Draw}
use Rattle.ov_history.specs.Past.{History, at, tally, same_actor}
use Rattle.ov_history.specs.Draws.{Drawn, drawn_in, time_in, last}
use Rattle.ov_laws.specs.Draws.{moves_clock, time_bound}
use Rattle.ov_history.specs.Marks.{mark, mark_in, top_time, lacks_quorum, lowest, own_marks}
use Rattle.ov_history.specs.May.{Setting, IsTime, StartsAs, Guard, Lawful}
use Rattle.ov_laws.proofs.Watermarks.Known.{lowest_top, heard_mark, mark_past}
use Rattle.ov_history.proofs.Given.{gate_known}
use Rattle.ov_laws.specs.Runs.{IsRun}
use Rattle.ov_laws.specs.Entries.{DrawnAt}

-- No time that a gateway has reached and no mark that an actor knows is later than this.
pub record AreUnder (h : History) (bound : ℕ) : Type 0 where
  pub clocks : (g : ℕ) → last g h ≤ bound
  pub known : (a : Actor) (g : ℕ) → time_of (mark low_of a g h) ≤ bound

-- a time that is the least allowed or in the range of clocks is not above both
time_under : (least time count : ℕ) → IsTime least time → least ≤ 2 ^ 46 + count → time ≤ 2 ^ 46 + count
time_under least time count is under = elim is.clock [
  | inl same ↦ omega (arith, same, under)
  | inr early ↦ omega (arith, early)
]

-- a number that is not above another has no later time
times_in_order : (a b : ℕ) → a ≤ b → time_of a ≤ time_of b
times_in_order a b le = omega (arith, le)

-- a number that is not above that of a time and a gateway has no later time
time_of_under : (m time g : ℕ) → g < 65536 → m ≤ number time g → time_of m ≤ time
time_of_under m time g small le = omega (arith, small, le)

-- a gateway of the topology has a small number
gate_small : (t : Shape) (g : ℕ) → IsShape t → is_in t (Gate g) ≡ true → g < 65536
gate_small t g shape known =
    let inside : g < gates t = gate_known t g known in
    omega (arith, inside, shape.few_gateways)

-- the greatest time of a low mark is not above what no mark is above
pub top_time_under : (a : Actor) (n : ℕ) (h : History) (bound : ℕ) → ((g : ℕ) → time_of (mark low_of a g h) ≤ bound) → top_time a n h ≤ bound
top_time_under a zero h bound each = omega arith
top_time_under a (suc n) h bound each =
    let here : time_of (mark low_of a n h) ≤ bound = each n in
    let rest : top_time a n h ≤ bound = top_time_under a n h bound each in
    grind (arith)

-- a draw that may follow moves the bound by one at most
draw_under : (t : Setting) (h : History) (a : Actor) (k : Kind) (drawn : Drawn) (count : ℕ) → AreUnder h (2 ^ 46 + count) → Guard t h a k
    → drawn_in k ≡ Some drawn → time_of drawn.version ≤ 2 ^ 46 + (1 + count)
draw_under t h (Gate s) (Began session seq (Draw version transaction)) drawn count under guard drew = by guard.ready.planned.command guard.starts
  where
    by : (command : Command) → StartsAs h s session command (Draw version transaction) → time_of drawn.version ≤ 2 ^ 46 + (1 + count)
    by (commands.Transact parts) starts =
        let clock : last s h ≤ 2 ^ 46 + count = under.clocks s in
        let time : time_of version ≤ 2 ^ 46 + (1 + count) = time_under (last s h + 1) (time_of version) (1 + count) starts.1.time (omega (arith, clock)) in
        let same : version ≡ drawn.version = grind (arith, common_steps) in
        rw (sym same) time
    by (commands.Snap keys) starts = absurd starts
draw_under t h a k drawn count under guard drew = absurd (grind (arith, common_steps))

-- a publication that may follow moves the bound by one at most
published_under : (t : Setting) (h : History) (a : Actor) (time : ℕ) (vector : List Marks) (count : ℕ) → AreUnder h (2 ^ 46 + count) → Guard t h a (Published time vector)
    → time ≤ 2 ^ 46 + (1 + count)
published_under t h (Gate s) time vector count under guard =
    let clock : last s h ≤ 2 ^ 46 + count = under.clocks s in
    let top : top_time (Gate s) (gates t.topology) h ≤ 2 ^ 46 + count = top_time_under (Gate s) (gates t.topology) h (2 ^ 46 + count) (λ g. under.known (Gate s) g) in
    time_under (max (last s h + 1) (top_time (Gate s) (gates t.topology) h)) time (1 + count) guard.at (omega (arith, clock, top))
published_under t h (Node c p) time vector count under guard = absurd guard
published_under t h (Settler s) time vector count under guard = absurd guard

-- the time of an entry that may follow is under the bound
time_new : (t : Setting) (h : History) (a : Actor) (k : Kind) → AreUnder h (2 ^ 46 + tally moves_clock h) → Guard t h a k
    → time_in k ≤ 2 ^ 46 + tally moves_clock (record { actor = a; kind = k } ∷ h)
time_new t h a (Published time vector) under guard =
    let late : time ≤ 2 ^ 46 + (1 + tally moves_clock h) = published_under t h a time vector (tally moves_clock h) under guard in
    omega (arith, late)
time_new t h (Gate s) (Began session seq (Draw version transaction)) under guard =
    draw_under t h (Gate s) (Began session seq (Draw version transaction)) _ (tally moves_clock h) under guard refl
time_new t h (Node c p) (Began session seq start) under guard = absurd guard
time_new t h (Settler s) (Began session seq start) under guard = absurd guard
time_new t h a k under guard = omega arith

-- the low marks of an entry that may follow are under the bound
mark_new : (t : Setting) → IsShape t.topology → (h : History) (a : Actor) (k : Kind) → AreUnder h (2 ^ 46 + tally moves_clock h) → is_in t.topology a ≡ true → Guard t h a k
    → (g : ℕ) → time_of (mark_in low_of g k) ≤ 2 ^ 46 + tally moves_clock (record { actor = a; kind = k } ∷ h)
mark_new t shape h (Gate s) (Published time vector) under inside guard g = elim (eqb_tells g s) [
  | inl same ↦
      let own : mark_at vector g ≡ own_marks t.topology s time h = ap (mark_at vector) same.1 ∙ guard.own in
      let low : low_of (mark_at vector g) ≡ lowest s (lacks_quorum t.topology s h) (number time s) h = ap low_of own in
      let least : lowest s (lacks_quorum t.topology s h) (number time s) h ≤ number time s = lowest_top s (lacks_quorum t.topology s h) (number time s) h in
      let late : time ≤ 2 ^ 46 + (1 + tally moves_clock h) = published_under t h (Gate s) time vector (tally moves_clock h) under guard in
      let most : time_of (low_of (mark_at vector g)) ≤ time = time_of_under _ time s (gate_small t.topology s shape inside) (omega (arith, low, least)) in
      omega (arith, most, late)
  | inr other ↦ elim (cases_Bool (ltb g (gates t.topology))) [
    | inl less ↦
        let same : low_of (mark_at vector g) ≡ mark low_of (Gate s) g h = ap low_of (guard.others g (ltb-true g (gates t.topology) less) other.1) in
        let known : time_of (mark low_of (Gate s) g h) ≤ 2 ^ 46 + tally moves_clock h = under.known (Gate s) g in
        let equal : time_of (low_of (mark_at vector g)) ≡ time_of (mark low_of (Gate s) g h) = ap time_of same in
        omega (arith, equal, known)
    | inr past ↦
        let none : low_of (mark_at vector g) ≡ 0 = mark_past low_of t.topology vector g refl guard.width (ltb-false g (gates t.topology) past) in
        let zero_time : time_of (low_of (mark_at vector g)) ≡ 0 = ap time_of none in
        omega (arith, zero_time)
  ]
]
mark_new t shape h a (Heard place vector) under inside guard g = by a guard
  where
    by : (a : Actor) → Guard t h a (Heard place vector) → time_of (low_of (mark_at vector g)) ≤ 2 ^ 46 + (0 + tally moves_clock h)
    by (Gate s) may =
        let less = times_in_order _ _ (heard_mark low_of t.topology h place (Gate s) vector may g) in
        let known : time_of (mark low_of (Gate may.sender) g h) ≤ 2 ^ 46 + tally moves_clock h = under.known (Gate may.sender) g in
        omega (arith, less, known)
    by (Settler s) may =
        let less = times_in_order _ _ (heard_mark low_of t.topology h place (Settler s) vector may g) in
        let known : time_of (mark low_of (Gate may.sender) g h) ≤ 2 ^ 46 + tally moves_clock h = under.known (Gate may.sender) g in
        omega (arith, less, known)
    by (Node c p) may = absurd may
mark_new t shape h (Node c p) (Published time vector) under inside guard g = absurd guard
mark_new t shape h (Settler s) (Published time vector) under inside guard g = absurd guard
mark_new t shape h a k under inside guard g = omega arith

-- the times of a lawful history are under the bound
pub times_under : (t : Setting) → IsShape t.topology → (h : History) → Lawful t h → AreUnder h (2 ^ 46 + tally moves_clock h)
times_under t shape [] lawful = record { clocks = λ g. omega arith; known = λ a g. omega arith }
times_under t shape (e ∷ h) lawful = step (times_under t shape h lawful.0)
  where
    more : (b : Bool) → 2 ^ 46 + tally moves_clock h ≤ 2 ^ 46 + ((if b then 1 else 0) + tally moves_clock h)
    more true = omega arith
    more false = omega arith

    clock : (b : Bool) (g old new bound : ℕ) → new ≤ bound → old ≤ bound → max (if b then new else 0) old ≤ bound
    clock true g old new bound here rest = omega (arith, here, rest)
    clock false g old new bound here rest = omega (arith, rest)

    marked : (b : Bool) (old new bound : ℕ) → time_of new ≤ bound → time_of old ≤ bound → time_of (max (if b then new else 0) old) ≤ bound
    marked true old new bound here rest = grind (arith, common_steps)
    marked false old new bound here rest = grind (arith, common_steps)

    step : AreUnder h (2 ^ 46 + tally moves_clock h) → AreUnder (e ∷ h) (2 ^ 46 + tally moves_clock (e ∷ h))
    step under =
        let grown : 2 ^ 46 + tally moves_clock h ≤ 2 ^ 46 + tally moves_clock (e ∷ h) = more (moves_clock e) in
        record {
          clocks = λ g. let old = under.clocks g in
              clock (is_gate g e.actor) g (last g h) (time_in e.kind) _ (time_new t h e.actor e.kind under lawful.1.guard) (omega (arith, old, grown));
          known = λ a g. let old = under.known a g in
              marked (same_actor a e.actor) (mark low_of a g h) (mark_in low_of g e.kind) _
              (mark_new t shape h e.actor e.kind under lawful.1.known lawful.1.guard g) (omega (arith, old, grown));
        }

-- the last time of a gateway is under the bound
pub last_bounded : (t : Setting) (h : History) (g : ℕ) → IsShape t.topology → Lawful t h → last g h ≤ 2 ^ 46 + tally moves_clock h
last_bounded t h g shape lawful = (times_under t shape h lawful).clocks g

-- the greatest time of a low mark that an actor knows is under the bound
pub top_bounded : (t : Setting) (h : History) (a : Actor) → IsShape t.topology → Lawful t h → top_time a (gates t.topology) h ≤ 2 ^ 46 + tally moves_clock h
top_bounded t h a shape lawful = top_time_under a (gates t.topology) h (2 ^ 46 + tally moves_clock h) (λ g. (times_under t shape h lawful).known a g)

-- the time of each drawn version is under the bound
pub drawn_bounded : (t : Setting) (h : History) (k : ℕ) (e : Entry) (drawn : Drawn) → IsShape t.topology → Lawful t h → at h k ≡ Some e
    → drawn_in e.kind ≡ Some drawn → time_of drawn.version ≤ 2 ^ 46 + tally moves_clock h
drawn_bounded t [] k e drawn shape lawful there drew = absurd (cc)
drawn_bounded t (new ∷ h) k e drawn shape lawful there drew = by (k == length h + 1) there (drawn_bounded t h k e drawn shape lawful.0)
  where
    by : (b : Bool) → (if b then Some new else at h k) ≡ Some e → (at h k ≡ Some e → drawn_in e.kind ≡ Some drawn → time_of drawn.version ≤ 2 ^ 46 + tally moves_clock h)
        → time_of drawn.version ≤ 2 ^ 46 + tally moves_clock (new ∷ h)
    by true is rest =
        let same : new ≡ e = cc in
        let his : drawn_in new.kind ≡ Some drawn = ap (λ (one : Entry). drawn_in one.kind) same ∙ drew in
        moved new.kind (draw_under t h new.actor new.kind drawn (tally moves_clock h) (times_under t shape h lawful.0) lawful.1.guard his) his
      where
        moved : (kind : Kind) → time_of drawn.version ≤ 2 ^ 46 + (1 + tally moves_clock h) → drawn_in kind ≡ Some drawn
            → time_of drawn.version ≤ 2 ^ 46 + tally moves_clock (record { actor = new.actor; kind = kind } ∷ h)
        moved (Began session seq start) under is_drawn = under
        moved kind under is_drawn = absurd (cc)
    by false is rest = let old : time_of drawn.version ≤ 2 ^ 46 + tally moves_clock h = rest is drew in grind (arith, common_steps)

-- the time of each publication is under the bound
pub published_bounded : (t : Setting) (h : History) (k time : ℕ) (a : Actor) (vector : List Marks) → IsShape t.topology → Lawful t h
    → at h k ≡ Some (record { actor = a; kind = Published time vector }) → time ≤ 2 ^ 46 + tally moves_clock h
published_bounded t [] k time a vector shape lawful there = absurd (cc)
published_bounded t (new ∷ h) k time a vector shape lawful there = by (k == length h + 1) there (published_bounded t h k time a vector shape lawful.0)
  where
    by : (b : Bool) → (if b then Some new else at h k) ≡ Some (record { actor = a; kind = Published time vector })
        → (at h k ≡ Some (record { actor = a; kind = Published time vector }) → time ≤ 2 ^ 46 + tally moves_clock h) → time ≤ 2 ^ 46 + tally moves_clock (new ∷ h)
    by true is rest =
        let same : ◌≡◌ {A = Entry} new (record { actor = a; kind = Published time vector }) = cc in
        let guard : Guard t h a (Published time vector) = subst (λ (one : Entry). Guard t h one.actor one.kind) same lawful.1.guard in
        let under : time ≤ 2 ^ 46 + (1 + tally moves_clock h) = published_under t h a time vector (tally moves_clock h) (times_under t shape h lawful.0) guard in
        subst (λ (one : Entry). time ≤ 2 ^ 46 + tally moves_clock (one ∷ h)) (sym same) under
    by false is rest = let old : time ≤ 2 ^ 46 + tally moves_clock h = rest is in grind (arith, common_steps)

-- the time of a version that was drawn is bounded
pub drawn_at_bounded : (t : Setting) (h : History) (k v : ℕ) → IsRun t h → DrawnAt h k v → time_of v ≤ time_bound h
drawn_at_bounded t h k v run is =
    let under : time_of is.drawn.version ≤ time_bound h = drawn_bounded t h k is.entry is.drawn run.0 run.1 is.there is.draws in
    subst (λ (n : ℕ). time_of n ≤ time_bound h) is.version_is under
