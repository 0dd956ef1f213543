-- Fact 3: where each begun version is acknowledged, publishing and hearing twice makes all of them visible to each settler.
use Rattle.std.proofs.Common.{◌≡◌, ◌≢◌, ◌==◌, ℕ, zero, suc, ◌+◌, ◌^◌, ◌≤◌, ◌<◌, max, Bool, true, false, not, ◌||◌, Option, Some, None, List, [], ◌∷◌, refl, ap, subst, ◌∙◌, inl, inr, arith}
use Rattle.std.specs.Prelude.{if◌then◌else◌}
use Rattle.std.proofs.lemmas.Bool.{cases_Bool, eq-eqb, lt-ltb, ne_eqb}
use Rattle.std.proofs.lemmas.Bool.Decides.{eqb_tells}
use Rattle.std.proofs.lemmas.Grind.{common_steps}
use Rattle.ov_base.specs.Version.{number, time_of}
use Rattle.ov_base.proofs.Orders.{max_either}
use Rattle.ov_functor.specs.Windows.{Among}
use Rattle.ov_gossip.specs.Marks.{mark_at, low_of}
use Rattle.ov_gossip.specs.declared.marks.Marks.{Marks}
use Rattle.ov_topology.specs.Shape.{Shape, gates}
use Rattle.ov_topology.specs.declared.actor.Actor.{Actor}
use Rattle.ov_topology.specs.declared.actor.Actor.TheVariants.{Gate, Node, Settler}
use Rattle.ov_topology.specs.declared.place.Place.{Place}
use Rattle.ov_event.specs.Letters.{is_in, is_gate}
use Rattle.ov_event.specs.Letters as sent
use Rattle.ov_event.specs.declared.entry.Entry.{Entry}
use Rattle.ov_event.specs.declared.kind.Kind.{Kind}
use Rattle.ov_event.specs.declared.kind.Kind.TheVariants.{Published, Heard}
use Rattle.ov_event.specs.declared.letter.Letter.TheVariants as letters
use Rattle.ov_history.specs.Past.{History, at, tally, same_actor, stopped}
use Rattle.ov_history.specs.Draws.{Drawn, draw_of, last, time_by}
use Rattle.ov_history.specs.Marks.{mark, mark_in, mark_by, top_time, lacks_quorum, lowest, lowered, own_marks}
use Rattle.ov_history.specs.May.{Setting, MayPublish, Guard, Lawful}
use Rattle.ov_history.specs.Gives.{Publish, timed, time_at, takes_as, vector_to}
use Rattle.ov_history.proofs.Given.{vector_at}
use Rattle.ov_history.proofs.Past.{at_older}
use Rattle.ov_follow.specs.Lines.{Line, followed, followed_all}
use Rattle.ov_follow.specs.Passes.{each, running, take, publishes, is_published, last_published, hear_lines, hears}
use Rattle.ov_follow.specs.Calm.{passed}
use Rattle.ov_follow.specs.Whole.{IsWhole}
use Rattle.ov_laws.specs.Draws.{Drew, moves_clock}
use Rattle.ov_laws.specs.Entries.{published_by}
use Rattle.ov_laws.specs.Runs.{IsRun}
use Rattle.ov_laws.proofs.History.Earlier.{at_newest, at_least}
use Rattle.ov_laws.proofs.Times.Begun.{drew_early}
use Rattle.ov_laws.proofs.Times.Bounds.{last_bounded, top_bounded}
use Rattle.ov_laws.proofs.Watermarks.Finals.{quorum_by, low_is_mark}
use Rattle.ov_laws.proofs.Watermarks.Known.{heard_mark}
use Rattle.ov_laws.proofs.Watermarks.Publications.{own_grows}
use Rattle.ov_complete.specs.Facts.{Runs, Acknowledged, AllVisible}
use Rattle.ov_complete.specs.Stable.{Stable}
use Rattle.ov_complete.proofs.General.{gossips, give_more, gossips_stops, gossips_draws, stable_both, stable_at, stable_greatest, stable_runs, stable_whole, stable_drew, stable_acknowledged, tally_lines, makes_early, same_self, gate_in, settler_in, under_least, taking_moves}
use Rattle.ov_complete.proofs.Gives.{publishes_marks, give_publishes, give_hears}
use Rattle.ov_complete.proofs.Keeping.{keeps, makes, run_all}
use Rattle.ov_functor.proofs.Among.{among_front, among_back}
use Rattle.ov_complete.proofs.Listed.{in_each, in_running, takes_letter}
use Rattle.ov_complete.proofs.Few.{publishes_few}

-- ---- at which time a gateway publishes

-- the least time at which the gateway may publish
abbrev next_time : Shape → ℕ → History → ℕ
next_time t g h = max (last g h + 1) (top_time (Gate g) (gates t) h)

-- the greatest time of a low mark does not fall
top_time_grows : (a : Actor) (n : ℕ) (e : Entry) (h : History) → top_time a n h ≤ top_time a n (e ∷ h)
top_time_grows a zero e h = omega arith
top_time_grows a (suc n) e h =
    let here : time_of (mark low_of a n h) ≤ time_of (mark low_of a n (e ∷ h)) = omega arith in
    let rest = top_time_grows a n e h in
    omega (arith, here, rest)

-- it is not below that of a gateway's low mark
top_time_at : (a : Actor) (n g : ℕ) (h : History) → g < n → time_of (mark low_of a g h) ≤ top_time a n h
top_time_at a zero g h inside = absurd (omega (arith, inside))
top_time_at a (suc n) g h inside = elim (eqb_tells g n) [
  | inl same ↦ let here : g ≡ n = same.1 in rw here (omega arith)
  | inr other ↦ let rest = top_time_at a n g h (omega (arith, inside, other.1)) in omega (arith, rest)
]

-- the least time does not fall
next_time_grows : (t : Shape) (g : ℕ) (e : Entry) (h : History) → next_time t g h ≤ next_time t g (e ∷ h)
next_time_grows t g e h =
    let top = top_time_grows (Gate g) (gates t) e h in
    omega (arith, top)

-- the reading 0 of a clock gives the least time, where that has a version
time_first : (least : ℕ) → least < 2 ^ 47 → timed (time_at 0 least) ≡ Some least
time_first least early =
    let same : time_at 0 least ≡ least = omega arith in
    rw (same, lt-ltb least (2 ^ 47) early) refl

-- the least time has a version while few entries moved a clock
next_time_early : (t : Setting) (h : History) (g : ℕ) → IsRun t h → tally moves_clock h < 2 ^ 45 + 16 → next_time t.topology g h < 2 ^ 47
next_time_early t h g run few =
    let time = last_bounded t h g run.0 run.1 in
    let top = top_bounded t h (Gate g) run.0 run.1 in
    omega (arith, few, time, top)

-- the line by which the gateway publishes at the reading 0 of its clock
abbrev publish_line : ℕ → Line
publish_line g = record { actor = Gate g; act = Publish 0 }

-- a gateway that runs publishes then at its least time
publish_gives : (t : Setting) (h : History) (g : ℕ) → IsRun t h → g < gates t.topology → stopped (Gate g) h ≡ false → tally moves_clock h < 2 ^ 45 + 16
    → followed t h (publish_line g) ≡ published_by g (next_time t.topology g h) (vector_to t.topology g (next_time t.topology g h) h (gates t.topology)) ∷ h
publish_gives t h g run known runs few =
    rw (gate_in t.topology g known, runs, time_first (next_time t.topology g h) (next_time_early t h g run few)) refl

-- ---- which marks a gateway publishes of itself

-- where no version is held down, the mark is its start
lowest_free : (g : ℕ) (held : Drawn → Bool) (top : ℕ) (h : History) → ((drawn : Drawn) → Drew g drawn h → held drawn ≡ false) → lowest g held top h ≡ top
lowest_free g held top [] free = refl
lowest_free g held top (e ∷ h) free = by (draw_of g e) refl (lowest_free g held top h (λ drawn drew. free drawn (inr drew)))
  where
    by : (o : Option Drawn) → draw_of g e ≡ o → lowest g held top h ≡ top → lowered held o (lowest g held top h) ≡ top
    by None is rest = rest
    by (Some drawn) is rest = rw (free drawn (inl is)) rest

-- where each begun version is acknowledged, the gateway's own low mark is the number of its time
own_low : (t : Shape) (g time : ℕ) (h : History) → g < gates t → Acknowledged t h → low_of (own_marks t g time h) ≡ number time g
own_low t g time h known acknowledged =
    lowest_free g (lacks_quorum t g h) (number time g) h (λ drawn drew. quorum_by t g h drawn (λ p inside touched. acknowledged g drawn p known drew inside touched))

-- and so the vector that it publishes shows
vector_low : (t : Shape) (g time : ℕ) (h : History) → g < gates t → Acknowledged t h → low_of (mark_at (vector_to t g time h (gates t)) g) ≡ number time g
vector_low t g time h known acknowledged =
    let there : mark_at (vector_to t g time h (gates t)) g ≡ own_marks t g time h = vector_at t g time h (gates t) g known ∙ rw (eq-eqb g g refl) refl in
    ap low_of there ∙ own_low t g time h known acknowledged

-- A gateway of the topology that is to publish at this time or later: it runs, and each begun version is acknowledged.
record IsReady (t : Setting) (g time : ℕ) (h : History) : Type 0 where
  pub acknowledged : Acknowledged t.topology h
  pub runs : stopped (Gate g) h ≡ false
  pub later : time ≤ next_time t.topology g h

-- it stays ready under what the passes give
stable_ready : (t : Setting) (test : Entry → Bool) (g time : ℕ) → ((e : Entry) → test e ≡ true → gossips e ≡ true) → Stable t test (IsReady t g time)
stable_ready t test g time passes = record {
  keep = λ h e run may is had. record {
    acknowledged = (stable_acknowledged t test (λ e is. gossips_draws e (passes e is))).keep h e run may is had.acknowledged;
    runs = (stable_runs t test (Gate g) (λ e is. gossips_stops e (passes e is))).keep h e run may is had.runs;
    later = let more = next_time_grows t.topology g e h in let time = had.later in omega (arith, more, time);
  };
}

-- by its line it then comes to know of itself the number of that time at least
publish_makes : (t : Setting) (g time : ℕ) (h : History) → IsRun t h → g < gates t.topology → tally moves_clock h < 2 ^ 45 + 16 → IsReady t g time h
    → number time g ≤ mark low_of (Gate g) g (followed t h (publish_line g))
publish_makes t g time h run known few ready =
    let later = ready.later in
    let low = vector_low t.topology g (next_time t.topology g h) h known ready.acknowledged in
    rw (publish_gives t h g run known ready.runs few, eq-eqb g g refl, low) (omega (arith, later))

-- an entry that publishes is such as the passes give
publishes_gossips : (e : Entry) → publishes_marks e ≡ true → gossips e ≡ true
publishes_gossips e is = by e.kind is
  where
    by : (k : Kind) → publishes_marks (record { actor = e.actor; kind = k }) ≡ true → gossips (record { actor = e.actor; kind = k }) ≡ true
    by (Published time vector) is = refl
    by k is = absurd cc

-- and so is one that takes a letter
takes_gossips : (e : Entry) → takes_letter e ≡ true → gossips e ≡ true
takes_gossips e is = rw is refl

-- ---- the entry by which a gateway published last

-- The last entry by which the gateway published shows at its place at least this mark.
record ShowsLast (h : History) (g m : ℕ) : Type 0 where
  pub time : ℕ
  pub vector : List Marks
  pub there : at h (last_published g h) ≡ Some (published_by g time vector)
  pub shows : m ≤ low_of (mark_at vector g)

-- whether the gateway publishes by the entry, as `last_published` tests it
abbrev published_of : ℕ → Entry → Bool
published_of g e = if is_gate g e.actor then is_published e.kind else false

-- an entry by which the gateway does not publish leaves that entry the last one
shows_on : (h : History) (e : Entry) (g m : ℕ) → published_of g e ≡ false → ShowsLast h g m → ShowsLast (e ∷ h) g m
shows_on h e g m other last = record {
  time = last.time;
  vector = last.vector;
  there = rw other (at_older h (last_published g h) (published_by g last.time last.vector) e last.there);
  shows = last.shows;
}

-- a mark of the gateway that an entry brings, by which it does not publish, some actor knew
brought : (t : Setting) (h : History) (a : Actor) (k : Kind) (g : ℕ) → Guard t h a k → g < gates t.topology → published_of g (record { actor = a; kind = k }) ≡ false
    → (b : Actor) × (mark_in low_of g k ≤ mark low_of b g h)
brought t h (Gate s) (Published time vector) g guard known other = (
  Gate s,
  elim (eqb_tells g s) [
    | inl same ↦ absurd (grind (arith, common_steps))
    | inr apart ↦ let there : low_of (mark_at vector g) ≡ mark low_of (Gate s) g h = ap low_of (guard.others g known apart.1) in omega (arith, there)
  ],
)
brought t h (Gate s) (Heard place vector) g guard known other = (Gate guard.sender, heard_mark low_of t.topology h place (Gate s) vector guard g)
brought t h (Settler s) (Heard place vector) g guard known other = (Gate guard.sender, heard_mark low_of t.topology h place (Settler s) vector guard g)
brought t h (Node c p) (Heard place vector) g guard known other = absurd guard
brought t h (Node c p) (Published time vector) g guard known other = absurd guard
brought t h (Settler s) (Published time vector) g guard known other = absurd guard
brought t h a k g guard known other = (Gate g, omega arith)

-- a mark of the gateway that an actor knows after such an entry, some actor knew
known_before : (t : Setting) (h : History) (e : Entry) (a : Actor) (g m : ℕ) → Guard t h e.actor e.kind → g < gates t.topology → published_of g e ≡ false → m ≤ mark low_of a g (e ∷ h)
    → (b : Actor) × (m ≤ mark low_of b g h)
known_before t h e a g m guard known other le = by (same_actor a e.actor) le
  where
    by : (b : Bool) → m ≤ max (if b then mark_in low_of g e.kind else 0) (mark low_of a g h) → (b : Actor) × (m ≤ mark low_of b g h)
    by true under =
        let new = brought t h e.actor e.kind g guard known other in
        elim (max_either (mark_in low_of g e.kind) (mark low_of a g h)) [
          | inl first ↦ let le = new.1 in (new.0, omega (arith, under, first, le))
          | inr second ↦ (a, omega (arith, under, second))
        ]
    by false under = (a, omega (arith, under))

-- an entry by which the gateway publishes shows at least what any actor knows then
shows_new : (t : Setting) (h : History) (b : Actor) (k : Kind) (a : Actor) (g m : ℕ) → Lawful t h → Guard t h b k → published_of g (record { actor = b; kind = k }) ≡ true
    → m ≤ mark low_of a g (record { actor = b; kind = k } ∷ h) → ShowsLast (record { actor = b; kind = k } ∷ h) g m
shows_new t h (Gate s) (Published time vector) a g m lawful guard is le =
    let same : s ≡ g = grind (arith, common_steps) in
    let may = subst (λ n. MayPublish t.topology h n time vector) same guard in
    let grown = own_grows {lacks = lacks_quorum t.topology} {which = low_of} t (low_is_mark t.topology) h lawful a g time vector may in
    record {
      time = time;
      vector = vector;
      there = rw (is, same) (at_newest h (published_by g time vector));
      shows = by (same_actor a (Gate s)) grown le;
    }
  where
    by : (b : Bool) → mark low_of a g h ≤ low_of (mark_at vector g) → m ≤ max (if b then low_of (mark_at vector g) else 0) (mark low_of a g h) → m ≤ low_of (mark_at vector g)
    by true grown under = omega (arith, grown, under)
    by false grown under = omega (arith, grown, under)
shows_new t h b k a g m lawful guard is le = absurd (grind (arith, common_steps))

-- what any actor knows of a gateway, its last publication shows
last_shows : (t : Setting) (h : History) (a : Actor) (g m : ℕ) → Lawful t h → g < gates t.topology → 0 < m → m ≤ mark low_of a g h → ShowsLast h g m
last_shows t [] a g m lawful known some le = absurd (omega (arith, some, le))
last_shows t (e ∷ h) a g m lawful known some le = elim (cases_Bool (published_of g e)) [
  | inl new ↦ shows_new t h e.actor e.kind a g m lawful.0 lawful.1.guard new le
  | inr other ↦
      let older = known_before t h e a g m lawful.1.guard known other le in
      shows_on h e g m other (last_shows t h older.0 g m lawful.0 known some older.1)
]

-- ---- who hears it

-- whoever gossip is addressed to takes it
heard_kind : (t : Setting) (h : History) (g : ℕ) (a : Actor) (place : Place) (vector : List Marks) → sent.hears g a ≡ true → takes_as t h a place (letters.Gossip g vector) ≡ Some (Heard place vector)
heard_kind t h g (Gate k) place vector to = refl
heard_kind t h g (Settler s) place vector to = refl
heard_kind t h g (Node c p) place vector to = absurd cc

-- the line by which an actor takes the gossip of an entry
hear_gives : (t : Setting) (h : History) (a : Actor) (g n time : ℕ) (vector : List Marks) → is_in t.topology a ≡ true → sent.hears g a ≡ true → stopped a h ≡ false
    → at h n ≡ Some (published_by g time vector) → followed t h (take a n 1) ≡ record { actor = a; kind = Heard (record { entry = n; letter = 1 }) vector } ∷ h
hear_gives t h a g n time vector known to runs there =
    rw (known, runs, there, to, heard_kind t h g a (record { entry = n; letter = 1 }) vector to) refl

-- An actor that hears the gateway: it is in the topology, it runs, and it is among those who take this entry in the pass.
record Hears (t : Setting) (h : History) (g n : ℕ) (a : Actor) : Type 0 where
  pub known : is_in t.topology a ≡ true
  pub to : sent.hears g a ≡ true
  pub runs : stopped a h ≡ false
  pub among : Among (take a n 1) (hears t h)

-- after the pass it knows of the gateway what the entry shows
hear_makes : (t : Setting) (h : History) (a : Actor) (g n m time : ℕ) (vector : List Marks) → IsRun t h → Hears t h g n a → at h n ≡ Some (published_by g time vector)
    → m ≤ low_of (mark_at vector g) → m ≤ mark low_of a g (followed_all t h (hears t h))
hear_makes t h a g n m time vector run is there shows =
    makes
    (stable_both (stable_at t takes_letter n (published_by g time vector))
    (stable_runs t takes_letter a (λ e takes. gossips_stops e (takes_gossips e takes))))
    (stable_greatest t takes_letter (mark_by low_of a g) m)
    h (hears t h) (take a n 1) run (give_hears t h) is.among
    (λ x running both. rw (hear_gives t x a g n time vector is.known is.to both.1 both.0, same_self a) (omega (arith, shows)))
    (there, is.runs)

-- the lines of a gateway that has published and runs are among those of the pass
in_hears : (t : Setting) (h : History) (g time : ℕ) (vector : List Marks) (line : Line) → g < gates t.topology → stopped (Gate g) h ≡ false
    → at h (last_published g h) ≡ Some (published_by g time vector) → Among line (hear_lines t h g (last_published g h)) → Among line (hears t h)
in_hears t h g time vector line known runs there among =
    let some : 1 ≤ last_published g h = at_least h (last_published g h) (published_by g time vector) there in
    let not_none : last_published g h ≢ 0 = λ none. absurd (omega (arith, some, none)) in
    in_each (λ k. if stopped (Gate k) h || (last_published k h == 0) then [] else hear_lines t h k (last_published k h)) (gates t.topology) g line known
    (rw (runs, ne_eqb (last_published g h) 0 not_none) among)

-- each other gateway that runs takes them
gate_hears : (t : Setting) (h : History) (g k time : ℕ) (vector : List Marks) → IsWhole t.topology h → g < gates t.topology → k < gates t.topology → k ≢ g
    → at h (last_published g h) ≡ Some (published_by g time vector) → Hears t h g (last_published g h) (Gate k)
gate_hears t h g k time vector whole known inside apart there = record {
  known = gate_in t.topology k inside;
  to = ap not (ne_eqb k g apart);
  runs = whole.gateways k inside;
  among = in_hears t h g time vector (take (Gate k) (last_published g h) 1) known (whole.gateways g known) there
      (among_front (take (Gate k) (last_published g h) 1)
      (each (λ j. if j == g then [] else running h (take (Gate j) (last_published g h) 1)) (gates t.topology))
      (each (λ s. running h (take (Settler s) (last_published g h) 1)) t.topology.centres)
      (in_each (λ j. if j == g then [] else running h (take (Gate j) (last_published g h) 1)) (gates t.topology) k (take (Gate k) (last_published g h) 1) inside
      (rw (ne_eqb k g apart) (in_running h (take (Gate k) (last_published g h) 1) (whole.gateways k inside)))));
}

-- each settler that runs takes them
settler_hears : (t : Setting) (h : History) (g s time : ℕ) (vector : List Marks) → IsWhole t.topology h → g < gates t.topology → s < t.topology.centres
    → at h (last_published g h) ≡ Some (published_by g time vector) → Hears t h g (last_published g h) (Settler s)
settler_hears t h g s time vector whole known inside there = record {
  known = settler_in t.topology s inside;
  to = refl;
  runs = whole.settlers s inside;
  among = in_hears t h g time vector (take (Settler s) (last_published g h) 1) known (whole.gateways g known) there
      (among_back (take (Settler s) (last_published g h) 1)
      (each (λ j. if j == g then [] else running h (take (Gate j) (last_published g h) 1)) (gates t.topology))
      (each (λ c. running h (take (Settler c) (last_published g h) 1)) t.topology.centres)
      (in_each (λ c. running h (take (Settler c) (last_published g h) 1)) t.topology.centres s (take (Settler s) (last_published g h) 1) inside
      (in_running h (take (Settler s) (last_published g h) 1) (whole.settlers s inside))));
}

-- ---- one pass of publishing and one of hearing

-- the history after the publishing pass
abbrev publishing : Setting → History → History
publishing t h = followed_all t h (publishes t h)

-- the history after that and the hearing pass
abbrev pair : Setting → History → History
pair t h = followed_all t (publishing t h) (hears t (publishing t h))

-- What both passes need: a run over a whole world, in which each begun version is acknowledged and few entries moved a clock.
record CanPass (t : Setting) (h : History) : Type 0 where
  pub run : IsRun t h
  pub whole : IsWhole t.topology h
  pub acknowledged : Acknowledged t.topology h
  pub few : tally moves_clock h + gates t.topology ≤ 2 ^ 45 + 16

-- a fact that stays under what the passes give stands after the first
publishing_keeps : {t : Setting} {P : History → Type 0} → Stable t gossips P → (h : History) → IsRun t h → P h → P (publishing t h)
publishing_keeps {t} stable h run p = keeps stable h (publishes t h) run (give_more t publishes_marks gossips (publishes t h) publishes_gossips (give_publishes t h)) p

-- and after both
pair_keeps : {t : Setting} {P : History → Type 0} → Stable t gossips P → (h : History) → IsRun t h → P h → P (pair t h)
pair_keeps {t} stable h run p =
    keeps stable (publishing t h) (hears t (publishing t h)) (run_all t h (publishes t h) run)
    (give_more t takes_letter gossips (hears t (publishing t h)) takes_gossips (give_hears t (publishing t h))) (publishing_keeps stable h run p)

-- clocks that few entries moved
stable_still : (t : Setting) (m : ℕ) → Stable t takes_letter (λ h. tally moves_clock h ≤ m)
stable_still t m = record { keep = λ h e run may takes le. rw (taking_moves e takes) (omega (arith, le)) }

-- both passes move clocks by one entry for each gateway at most
pair_few : (t : Setting) (h : History) → IsRun t h → tally moves_clock (pair t h) ≤ tally moves_clock h + gates t.topology
pair_few t h run =
    let more = tally_lines moves_clock t h (publishes t h) in
    let long = publishes_few t h in
    keeps (stable_still t (tally moves_clock h + gates t.topology)) (publishing t h) (hears t (publishing t h)) (run_all t h (publishes t h) run) (give_hears t (publishing t h))
    (omega (arith, more, long))

-- after the publishing pass a gateway knows of itself the number of a time that it was to publish at least
publishing_makes : (t : Setting) (g time : ℕ) (h : History) → CanPass t h → g < gates t.topology → time ≤ next_time t.topology g h → number time g ≤ mark low_of (Gate g) g (publishing t h)
publishing_makes t g time h can known later =
    let long = publishes_few t h in
    makes_early moves_clock (2 ^ 45 + 16) (stable_ready t publishes_marks g time publishes_gossips) (stable_greatest t publishes_marks (mark_by low_of (Gate g) g) (number time g))
    h (publishes t h) (publish_line g) can.run (give_publishes t h)
    (in_each (λ k. running h (publish_line k)) (gates t.topology) g (publish_line g) known (in_running h (publish_line g) (can.whole.gateways g known)))
    (λ x run few ready. publish_makes t g time x run known few ready)
    (omega (arith, long, can.few))
    (record { acknowledged = can.acknowledged; runs = can.whole.gateways g known; later = later })

-- and its last publication shows it
publishing_shows : (t : Setting) (g time : ℕ) (h : History) → CanPass t h → g < gates t.topology → 0 < time → time ≤ next_time t.topology g h → ShowsLast (publishing t h) g (number time g)
publishing_shows t g time h can known some later =
    last_shows t (publishing t h) (Gate g) g (number time g) (run_all t h (publishes t h) can.run).1 known (omega (arith, some)) (publishing_makes t g time h can known later)

-- after both passes each other gateway knows that
pair_gate : (t : Setting) (g k time : ℕ) (h : History) → CanPass t h → g < gates t.topology → k < gates t.topology → k ≢ g → 0 < time → time ≤ next_time t.topology g h
    → number time g ≤ mark low_of (Gate k) g (pair t h)
pair_gate t g k time h can known inside apart some later =
    let last = publishing_shows t g time h can known some later in
    let whole = publishing_keeps (stable_whole t gossips gossips_stops) h can.run can.whole in
    hear_makes t (publishing t h) (Gate k) g (last_published g (publishing t h)) (number time g) last.time last.vector (run_all t h (publishes t h) can.run)
    (gate_hears t (publishing t h) g k last.time last.vector whole known inside apart last.there) last.there last.shows

-- and each settler
pair_settler : (t : Setting) (g s time : ℕ) (h : History) → CanPass t h → g < gates t.topology → s < t.topology.centres → 0 < time → time ≤ next_time t.topology g h
    → number time g ≤ mark low_of (Settler s) g (pair t h)
pair_settler t g s time h can known inside some later =
    let last = publishing_shows t g time h can known some later in
    let whole = publishing_keeps (stable_whole t gossips gossips_stops) h can.run can.whole in
    hear_makes t (publishing t h) (Settler s) g (last_published g (publishing t h)) (number time g) last.time last.vector (run_all t h (publishes t h) can.run)
    (settler_hears t (publishing t h) g s last.time last.vector whole known inside last.there) last.there last.shows

-- a gateway then publishes next after each time that a gateway had reached before
pair_later : (t : Setting) (g k : ℕ) (h : History) → CanPass t h → g < gates t.topology → k < gates t.topology → last g h + 1 ≤ next_time t.topology k (pair t h)
pair_later t g k h can known inside = elim (eqb_tells k g) [
  | inl same ↦
      let own : last g h ≤ last g (pair t h) = pair_keeps (stable_greatest t gossips (time_by g) (last g h)) h can.run (omega arith) in
      rw (same.1) (omega (arith, own))
  | inr other ↦
      let mark_is = pair_gate t g k (last g h + 1) h can known inside other.1 (omega arith) (omega arith) in
      let top = top_time_at (Gate k) (gates t.topology) g (pair t h) known in
      omega (arith, mark_is, top)
]

-- and so after both pairs each settler knows of each gateway a mark above each time that a gateway had reached before
pairs_settler : (t : Setting) (g k s : ℕ) (h : History) → CanPass t h → CanPass t (pair t h) → g < gates t.topology → k < gates t.topology → s < t.topology.centres
    → number (last g h + 1) k ≤ mark low_of (Settler s) k (pair t (pair t h))
pairs_settler t g k s h can again known inside within =
    pair_settler t k s (last g h + 1) (pair t h) again inside within (omega arith) (pair_later t g k h can known inside)

-- what can be done once can be done again
can_again : (t : Setting) (h : History) → CanPass t h → tally moves_clock h < 2 ^ 45 → CanPass t (pair t h)
can_again t h can early =
    let more = pair_few t h can.run in
    record {
      run = run_all t (publishing t h) (hears t (publishing t h)) (run_all t h (publishes t h) can.run);
      whole = pair_keeps (stable_whole t gossips gossips_stops) h can.run can.whole;
      acknowledged = pair_keeps (stable_acknowledged t gossips gossips_draws) h can.run can.acknowledged;
      few = omega (arith, more, early, can.run.0.few_gateways);
    }

-- Where each begun version is acknowledged, each is visible to each settler after the gateways published and were heard twice.
pub visible_then : (t : Setting) (h : History) → Runs t h → Acknowledged t.topology h → AllVisible t.topology (passed t h (publishes ∷ hears ∷ publishes ∷ hears ∷ []))
visible_then t h runs acknowledged s g drawn inside known drew =
    under_least (λ k. mark low_of (Settler s) k (pair t (pair t h))) (mark low_of (Settler s) 0 (pair t (pair t h))) (gates t.topology) drawn.version
    (above 0 (omega (arith, runs.run.0.some_gateway))) (λ k within. above k within)
  where
    can : CanPass t h
    can = record { run = runs.run; whole = runs.whole; acknowledged = acknowledged; few = omega (arith, runs.early, runs.run.0.few_gateways) }

    again : CanPass t (pair t h)
    again = can_again t h can runs.early

    old : Drew g drawn h
    old =
        pair_keeps (stable_drew t gossips g drawn (Drew g drawn h) gossips_draws) (pair t h) again.run
        (pair_keeps (stable_drew t gossips g drawn (Drew g drawn h) gossips_draws) h can.run (λ is. is)) drew

    above : (k : ℕ) → k < gates t.topology → drawn.version < mark low_of (Settler s) k (pair t (pair t h))
    above k within =
        let mark_is = pairs_settler t g k s h can again known within inside in
        let early = drew_early g drawn h old in
        omega (arith, mark_is, early)
