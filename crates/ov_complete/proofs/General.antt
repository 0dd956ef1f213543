-- General lemmas on facts that stay, on lists of lines, and on what entries that only take letters or publish leave as it was.
use Rattle.std.proofs.Common.{◌≡◌, ℕ, ◌&&◌, zero, suc, ◌+◌, ◌≤◌, ◌<◌, Bool, true, false, not, ◌||◌, Option, Some, None, List, [], ◌∷◌, length, length-append, refl, ap, subst, ◌∙◌, inl, inr, arith}
use Rattle.std.specs.Prelude.{nat_lt, if◌then◌else◌}
use Rattle.std.proofs.lemmas.Bool.{eq-eqb, lt-ltb, ltb-true, or_right, and_parts}
use Rattle.ov_functor.specs.Windows.{Among}
use Rattle.ov_topology.specs.Shape.{Shape, gates}
use Rattle.ov_topology.specs.declared.actor.Actor.{Actor}
use Rattle.ov_topology.specs.declared.actor.Actor.TheVariants.{Gate, Node, Settler}
use Rattle.ov_session.specs.Events.{greatest}
use Rattle.ov_event.specs.Letters.{is_in, is_gate}
use Rattle.ov_event.specs.declared.entry.Entry.{Entry}
use Rattle.ov_event.specs.declared.kind.Kind.{Kind}
use Rattle.ov_event.specs.declared.kind.Kind.TheVariants.{Began, Published, Stopped}
use Rattle.ov_history.specs.Past.{History, at, some, tally, same_actor, stopped, stops}
use Rattle.ov_history.specs.Counts.{least_of, weight}
use Rattle.ov_history.specs.Draws.{Drawn, drawn_in}
use Rattle.ov_history.specs.Placement.{acked, ackers}
use Rattle.ov_history.specs.May.{Setting}
use Rattle.ov_history.specs.Gives.{gives}
use Rattle.ov_history.specs.Cores.{onto}
use Rattle.ov_history.proofs.Counting.{weight_more, weight_same}
use Rattle.ov_history.proofs.Past.{at_older}
use Rattle.ov_history.proofs.Stays.{letter-stays}
use Rattle.ov_history.specs.Letters.{letter}
use Rattle.ov_history.specs.Settlers.{settled}
use Rattle.ov_topology.specs.declared.place.Place.{Place}
use Rattle.ov_event.specs.declared.letter.Letter.{Letter}
use Rattle.ov_complete.proofs.Floors.{settled_grows}
use Rattle.ov_follow.specs.Lines.{Line, followed, followed_all}
use Rattle.ov_follow.specs.Passes.{each}
use Rattle.ov_follow.specs.Whole.{IsWhole}
use Rattle.ov_laws.specs.Draws.{Drew, moves, moves_clock}
use Rattle.ov_laws.specs.Runs.{IsRun}
use Rattle.ov_laws.proofs.Watermarks.Finals.{acked_stays}
use Rattle.ov_complete.specs.Facts.{Acknowledged}
use Rattle.ov_complete.specs.Stable.{Stable, GiveOnly, is_taking, is_publishing}
use Rattle.ov_complete.proofs.Keeping.{keeps, keeps_line, run_next}

-- ---- tests of entries

-- whether an entry takes a letter or publishes
abbrev pub gossips : Entry → Bool
gossips e = is_taking e.kind || is_publishing e.kind

-- lines that give only what passes a test give only what passes a weaker one
pub give_more : (t : Setting) (test more : Entry → Bool) (lines : List Line) → ((e : Entry) → test e ≡ true → more e ≡ true) → GiveOnly t test lines → GiveOnly t more lines
give_more t test more [] passes only = tt
give_more t test more (line ∷ lines) passes only = ((λ h e is. passes e (only.0 h e is)), give_more t test more lines passes only.1)

-- whoever takes a letter does not stop
pub taking_stops : (e : Entry) → is_taking e.kind ≡ true → stops e.kind ≡ false
taking_stops e is = by e.kind is
  where
    by : (k : Kind) → is_taking k ≡ true → stops k ≡ false
    by Stopped is = absurd cc
    by k is = refl

-- whoever takes a letter draws no version
pub taking_draws : (e : Entry) → is_taking e.kind ≡ true → drawn_in e.kind ≡ None
taking_draws e is = by e.kind is
  where
    by : (k : Kind) → is_taking k ≡ true → drawn_in k ≡ None
    by (Began session seq start) is = absurd cc
    by k is = refl

-- whoever takes a letter moves no clock
pub taking_moves : (e : Entry) → is_taking e.kind ≡ true → moves_clock e ≡ false
taking_moves e is = by e.kind is
  where
    by : (k : Kind) → is_taking k ≡ true → moves k ≡ false
    by (Began session seq start) is = absurd cc
    by (Published time vector) is = absurd cc
    by k is = refl

-- such an entry stops no actor
pub gossips_stops : (e : Entry) → gossips e ≡ true → stops e.kind ≡ false
gossips_stops e is = by e.kind is
  where
    by : (k : Kind) → (is_taking k || is_publishing k) ≡ true → stops k ≡ false
    by Stopped is = absurd cc
    by k is = refl

-- such an entry draws no version
pub gossips_draws : (e : Entry) → gossips e ≡ true → drawn_in e.kind ≡ None
gossips_draws e is = by e.kind is
  where
    by : (k : Kind) → (is_taking k || is_publishing k) ≡ true → drawn_in k ≡ None
    by (Began session seq start) is = absurd cc
    by k is = refl

-- ---- facts that stay

-- two facts that stay
pub stable_both : {t : Setting} {test : Entry → Bool} {P D : History → Type 0} → Stable t test P → Stable t test D → Stable t test (λ h. P h × D h)
stable_both p d = record { keep = λ h e run may passes both. (p.keep h e run may passes both.0, d.keep h e run may passes both.1) }

-- an entry keeps its number
pub stable_at : (t : Setting) (test : Entry → Bool) (k : ℕ) (e : Entry) → Stable t test (λ h. at h k ≡ Some e)
stable_at t test k e = record { keep = λ h new run may passes there. at_older h k e new there }

-- where some entry passed, some does
pub stable_some : (t : Setting) (test f : Entry → Bool) → Stable t test (λ h. some f h ≡ true)
stable_some t test f = record { keep = λ h e run may passes is. or_right (f e) (some f h) is }

-- what is gathered does not fall
pub stable_greatest : (t : Setting) (test : Entry → Bool) (f : Entry → ℕ) (m : ℕ) → Stable t test (λ h. m ≤ greatest f h)
stable_greatest t test f m = record { keep = λ h e run may passes le. omega (arith, le) }

-- a letter keeps its place
pub stable_letter : (t : Setting) (test : Entry → Bool) (place : Place) (sent : Letter) → Stable t test (λ (h : History). letter t.topology h place ≡ Some sent)
stable_letter t test place sent = record { keep = λ h new run may passes there. letter-stays h new.actor new.kind t.topology place sent there }

-- a settler has settled as far
pub stable_settled : (t : Setting) (test : Entry → Bool) (s n : ℕ) → Stable t test (λ (h : History). n ≤ settled s h)
stable_settled t test s n = record {
  keep = λ h new run may passes there. let grows : settled s h ≤ settled s (new ∷ h) = settled_grows t h new s run in omega (arith, there, grows);
}

-- an entry that stops none leaves each actor running as it was
pub stopped_same : (a : Actor) (e : Entry) (h : History) → stops e.kind ≡ false → stopped a (e ∷ h) ≡ stopped a h
stopped_same a e h none = by (same_actor a e.actor)
  where
    by : (b : Bool) → ((if b then stops e.kind else false) || stopped a h) ≡ stopped a h
    by true = rw none refl
    by false = refl

-- an actor that runs goes on
pub stable_runs : (t : Setting) (test : Entry → Bool) (a : Actor) → ((e : Entry) → test e ≡ true → stops e.kind ≡ false) → Stable t test (λ h. stopped a h ≡ false)
stable_runs t test a none = record { keep = λ h e run may passes runs. stopped_same a e h (none e passes) ∙ runs }

-- a whole world stays whole
pub stable_whole : (t : Setting) (test : Entry → Bool) → ((e : Entry) → test e ≡ true → stops e.kind ≡ false) → Stable t test (λ h. IsWhole t.topology h)
stable_whole t test none = record {
  keep = λ h e run may passes whole. record {
    gateways = λ g inside. stopped_same (Gate g) e h (none e passes) ∙ whole.gateways g inside;
    settlers = λ s inside. stopped_same (Settler s) e h (none e passes) ∙ whole.settlers s inside;
    nodes = λ p inside.
        let had = whole.nodes p inside in
        let more = weight_more t.topology (λ c. not (stopped (Node c p) h)) (λ c. not (stopped (Node c p) (e ∷ h)))
        (λ c runs. ap not (stopped_same (Node c p) e h (none e passes)) ∙ runs) in
        omega (arith, had, more);
  };
}

-- an entry that draws nothing leaves what was drawn as it was
pub drew_same : (g : ℕ) (drawn : Drawn) (e : Entry) (h : History) → drawn_in e.kind ≡ None → Drew g drawn (e ∷ h) → Drew g drawn h
drew_same g drawn e h none (inl new) = by (is_gate g e.actor) new
  where
    by : (b : Bool) → (if b then drawn_in e.kind else None) ≡ Some drawn → Drew g drawn h
    by true is = absurd (cc)
    by false is = absurd (cc)
drew_same g drawn e h none (inr old) = old

-- no version is drawn meanwhile
pub stable_drew : (t : Setting) (test : Entry → Bool) (g : ℕ) (drawn : Drawn) (P : Type 0) → ((e : Entry) → test e ≡ true → drawn_in e.kind ≡ None) → Stable t test (λ h. Drew g drawn h → P)
stable_drew t test g drawn P none = record { keep = λ h e run may passes had drew. had (drew_same g drawn e h (none e passes) drew) }

-- no fewer acknowledge
pub ackers_grow : (t : Shape) (g v p : ℕ) (e : Entry) (h : History) → ackers t g v p h ≤ ackers t g v p (e ∷ h)
ackers_grow t g v p e h = weight_more t (λ c. acked g v c p h) (λ c. acked g v c p (e ∷ h)) (λ c yet. acked_stays g v c p e h yet)

-- what is acknowledged stays so
pub stable_acknowledged : (t : Setting) (test : Entry → Bool) → ((e : Entry) → test e ≡ true → drawn_in e.kind ≡ None) → Stable t test (λ h. Acknowledged t.topology h)
stable_acknowledged t test none = record {
  keep = λ h e run may passes had g drawn p known drew inside touched.
      let enough = had g drawn p known (drew_same g drawn e h (none e passes) drew) inside touched in
      let more = ackers_grow t.topology g drawn.version p e h in
      omega (arith, enough, more);
}

-- ---- how far clocks move

-- one more entry counts for one at most
pub tally_next : (f : Entry → Bool) (e : Entry) (h : History) → tally f (e ∷ h) ≤ tally f h + 1
tally_next f e h = by (f e)
  where
    by : (b : Bool) → (if b then 1 else 0) + tally f h ≤ tally f h + 1
    by true = omega arith
    by false = omega arith

-- a line makes one more entry at most
pub tally_line : (f : Entry → Bool) (t : Setting) (h : History) (line : Line) → tally f (followed t h line) ≤ tally f h + 1
tally_line f t h line = by (gives t h line.actor line.act)
  where
    by : (o : Option Entry) → tally f (onto o h) ≤ tally f h + 1
    by None = omega arith
    by (Some e) = tally_next f e h

-- lines make no more entries than there are lines
pub tally_lines : (f : Entry → Bool) (t : Setting) (h : History) (lines : List Line) → tally f (followed_all t h lines) ≤ tally f h + length lines
tally_lines f t h [] = omega arith
tally_lines f t h (line ∷ lines) =
    let here = tally_line f t h line in
    let rest = tally_lines f t (followed t h line) lines in
    omega (arith, here, rest)

-- lists of one line at most for each number below have no more lines than that number
pub each_length : (f : ℕ → List Line) (n : ℕ) → ((k : ℕ) → length (f k) ≤ 1) → length (each f n) ≤ n
each_length f zero short = omega arith
each_length f (suc n) short =
    let here = short n in
    let rest = each_length f n short in
    let both = length-append (each f n) (f n) in
    omega (arith, here, rest, both)

-- What one of the lines makes of a fact stands after all of them, where both stay, and where it makes it while few entries pass another test.
pub makes_early : {t : Setting} {test : Entry → Bool} {P D : History → Type 0} (f : Entry → Bool) (bound : ℕ) → Stable t test P → Stable t test D → (h : History) (lines : List Line) (line : Line)
    → IsRun t h → GiveOnly t test lines → Among line lines → ((x : History) → IsRun t x → tally f x < bound → P x → D (followed t x line)) → tally f h + length lines ≤ bound → P h
    → D (followed_all t h lines)
makes_early {t} {test} {P} {D} f bound p d h [] line run only among make few is = absurd among
makes_early {t} {test} {P} {D} f bound p d h (first ∷ lines) line run only (inl same) make few is =
    keeps d (followed t h first) lines (run_next t h first run) only.1 (subst (λ (l : Line). D (followed t h l)) same (make h run (omega (arith, few)) is))
makes_early {t} {test} {P} {D} f bound p d h (first ∷ lines) line run only (inr among) make few is =
    let here = tally_line f t h first in
    makes_early f bound p d (followed t h first) lines line (run_next t h first run) only.1 among make (omega (arith, here, few)) (keeps_line p h first run only.0 is)

-- ---- actors

-- an actor is the same as itself
pub same_self : (a : Actor) → same_actor a a ≡ true
same_self (Gate g) = eq-eqb g g refl
same_self (Node c p) = rw (eq-eqb c c refl) (eq-eqb p p refl)
same_self (Settler s) = eq-eqb s s refl

-- a gateway below the number of gateways is in the topology
pub gate_in : (t : Shape) (g : ℕ) → g < gates t → is_in t (Gate g) ≡ true
gate_in t g inside = rw (lt-ltb g (gates t) inside) refl

-- a node of a centre and a partition of the topology is in it
pub node_in : (t : Shape) (c p : ℕ) → c < t.centres → p < t.partitions → is_in t (Node c p) ≡ true
node_in t c p centre part = rw (lt-ltb c t.centres centre, lt-ltb p t.partitions part) refl

-- a settler below the number of centres is in the topology
pub settler_in : (t : Shape) (s : ℕ) → s < t.centres → is_in t (Settler s) ≡ true
settler_in t s inside = rw (lt-ltb s t.centres inside) refl

-- ---- the least

-- what is below a number and below all that is said is below the least
pub under_least : (f : ℕ → ℕ) (number n v : ℕ) → v < number → ((g : ℕ) → g < n → v < f g) → v < least_of f number n
under_least f number zero v first each = first
under_least f number (suc n) v first each =
    let here = each n (omega arith) in
    let rest = under_least f number n v first (λ g less. each g (omega (arith, less))) in
    omega (arith, here, rest)

-- ---- votes

-- no fewer votes where more centres of the topology pass
pub weight_under : (t : Shape) (f g : ℕ → Bool) → ((c : ℕ) → c < t.centres → f c ≡ true → g c ≡ true) → weight t f ≤ weight t g
weight_under t f g more =
    let same : weight t f ≡ weight t (λ c. nat_lt c t.centres && f c) = weight_same t f (λ c. nat_lt c t.centres && f c) (λ c less. rw (lt-ltb c t.centres less) refl) in
    let less : weight t (λ c. nat_lt c t.centres && f c) ≤ weight t g = weight_more t (λ c. nat_lt c t.centres && f c) g
    (λ c both. let parts = and_parts (nat_lt c t.centres) (f c) both in more c (ltb-true c t.centres parts.0) parts.1) in
    omega (arith, same, less)
