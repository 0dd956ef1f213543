-- The histories that a core stands for, after one more entry of its settler.
use Rattle.std.proofs.Common.{◌≡◌, ℕ, ◌+◌, ◌<◌, max, Bool, true, false, ◌||◌, Option, Some, None, List, [], ◌∷◌, ◌++◌, length, refl, sym, ap, ◌∙◌, arith}
use Rattle.std.specs.Prelude.{if◌then◌else◌}
use Rattle.std.specs.List.{AllByRecursion}
use Rattle.std.specs.Option.{option_map}
use Rattle.std.proofs.lemmas.Bool.{eq-eqb}
use Rattle.ov_base.specs.declared.value.Value.{Value}
use Rattle.ov_functor.specs.Unions.{all_added}
use Rattle.ov_functor.specs.Values.{latest}
use Rattle.ov_gossip.specs.Marks.{mark_at, greater, no_marks, low_of, full_of, done_of}
use Rattle.ov_gossip.specs.declared.marks.Marks.{Marks}
use Rattle.ov_topology.specs.declared.actor.Actor.{Actor}
use Rattle.ov_topology.specs.declared.actor.Actor.TheVariants.{Settler}
use Rattle.ov_topology.specs.declared.place.Place.{Place}
use Rattle.ov_lists.specs.Entries.{Entry, latest_of}
use Rattle.ov_event.specs.Letters.{is_for}
use Rattle.ov_event.specs.declared.entry.Entry as entries
use Rattle.ov_event.specs.declared.kind.Kind.{Kind}
use Rattle.ov_event.specs.declared.letter.Letter.{Letter}
use Rattle.ov_history.specs.Past.{History, stops}
use Rattle.ov_history.specs.Letters.{letter}
use Rattle.ov_history.specs.Marks.{mark_in, mark, marks}
use Rattle.ov_history.specs.Settlers as settlers
use Rattle.ov_history.specs.Gives.{Act, Take, settler_takes, gives}
use Rattle.ov_history.specs.May.{Setting}
use Rattle.ov_history.specs.Cores.{kept, Runs, Steps}
use Rattle.ov_history.proofs.Cores.{steps, gives_taken}
use Rattle.ov_window.specs.Harvest.{Gathered}
use Rattle.ov_settler.specs.Settler.{SettlerState, round_of, valued_of, Gathers, IsSettler}

-- the settler's entry of this kind
abbrev pub by_settler : ℕ → Kind → entries.Entry
by_settler s kind = record { actor = Settler s; kind = kind }

-- ---- one more entry of the settler

module _ (s : ℕ) (kind : Kind) (h : History) where
  abbrev one_more : History
  one_more = by_settler s kind ∷ h

  pub rounds_more : settlers.rounds s one_more ≡ (if settlers.asks kind then 1 else 0) + settlers.rounds s h
  rounds_more = rw (eq-eqb s s refl) refl

  pub settled_more : settlers.settled s one_more ≡ settlers.raised kind (settlers.open_round s h) (settlers.settled s h)
  settled_more = rw (eq-eqb s s refl) refl

  pub round_more : settlers.open_round s one_more ≡ settlers.opened kind (settlers.open_round s h)
  round_more = rw (eq-eqb s s refl) refl

  pub took_more : (n c p : ℕ) → settlers.took s n c p one_more ≡ (settlers.takes n c p kind || settlers.took s n c p h)
  took_more n c p = rw (eq-eqb s s refl) refl

  pub harvest_more : (n : ℕ) → settlers.harvest s n one_more ≡ all_added (settlers.brought s n kind h) (settlers.harvest s n h)
  harvest_more n = rw (eq-eqb s s refl) refl

  pub values_more : settlers.values_of s one_more ≡ settlers.values_in kind ++ settlers.values_of s h
  values_more = rw (eq-eqb s s refl) refl

  mark_more : (which : Marks → ℕ) (k : ℕ) → mark which (Settler s) k one_more ≡ max (mark_in which k kind) (mark which (Settler s) k h)
  mark_more which k = rw (eq-eqb s s refl) refl

-- the marks of a gateway that an entry tells
abbrev pub marks_in : ℕ → Kind → Marks
marks_in k kind = record { low = mark_in low_of k kind; full = mark_in full_of k kind; done = mark_in done_of k kind }

pub marks_more : (s : ℕ) (kind : Kind) (h : History) (k : ℕ) → marks (Settler s) k (by_settler s kind ∷ h) ≡ greater (marks_in k kind) (marks (Settler s) k h)
marks_more s kind h k = rw (mark_more s kind h low_of k, mark_more s kind h full_of k, mark_more s kind h done_of k) refl

-- where nothing is told the marks are as they were
pub nothing_more : (m : Marks) → m ≡ greater no_marks m
nothing_more m = let a : max 0 m.low ≡ m.low = omega arith in let b : max 0 m.full ≡ m.full = omega arith in let c : max 0 m.done ≡ m.done = omega arith in rw (a, b, c) refl

-- whether an actor has stopped, after one more entry
runs_more : (t : Setting) (h : History) (s : ℕ) (was is_ : Bool) (kind : Kind) → is_ ≡ (stops kind || was) → Runs t h (Settler s) was → Runs t (by_settler s kind ∷ h) (Settler s) is_
runs_more t h s was is_ kind now runs = record {
  shape = runs.shape;
  known = runs.known;
  stopped_is = rw (eq-eqb s s refl, now, runs.stopped_is) refl;
}

-- a core of the settler of another core, in its topology
abbrev pub of_settler : SettlerState → SettlerState → SettlerState
of_settler s new = record new { topology = s.topology; centre = s.centre }

-- What a core is after an entry of this kind, in words of what it was; its topology and its settler stay.
pub record Goes (t : Setting) (h : History) (s new : SettlerState) (kind : Kind) : Type 0 where
  pub stopped_is : new.stopped ≡ (stops kind || s.stopped)
  pub width : length new.vector ≡ length s.vector
  pub marks_are : (k : ℕ) → k < length s.vector → mark_at new.vector k ≡ greater (marks_in k kind) (mark_at s.vector k)
  pub rounds_are : new.rounds ≡ (if settlers.asks kind then 1 else 0) + s.rounds
  pub settled_is : new.settled ≡ settlers.raised kind (settlers.open_round s.centre h) s.settled
  pub round_is : option_map (round_of new.rounds) new.harvest ≡ settlers.opened kind (settlers.open_round s.centre h)
  pub gathers : (harvest : Gathered) → new.harvest ≡ Some harvest → Gathers t.topology (by_settler s.centre kind ∷ h) (of_settler s new) harvest
  pub later : (n c p : ℕ) → new.rounds < n → (settlers.takes n c p kind || settlers.took s.centre n c p h) ≡ false
  pub values_are : (key : List ℕ) (below : ℕ) → latest key below (settlers.values_in kind ++ settlers.values_of s.centre h) ≡ option_map valued_of (latest_of key below new.values)
  pub under : AllByRecursion (λ (entry : Entry Value). entry.version < new.settled) new.values

-- then it stands for the history with that entry
pub goes_stands : (t : Setting) (h : History) (actor : Actor) (s new : SettlerState) (kind : Kind) → IsSettler t h actor s → Goes t h s new kind → IsSettler t (by_settler s.centre kind ∷ h) actor (of_settler s new)
goes_stands t h actor s new kind is goes = rw is.actor_is (record {
  actor_is = refl;
  runs = runs_more t h s.centre s.stopped new.stopped kind goes.stopped_is (rw is.actor_is at is.runs);
  topology_is = is.topology_is;
  width = goes.width ∙ is.width;
  marks_are = λ k less. goes.marks_are k (omega (arith, less, is.width)) ∙ (ap (greater (marks_in k kind)) (is.marks_are k less) ∙ sym (marks_more s.centre kind h k));
  rounds_are = goes.rounds_are ∙ (ap (λ n. (if settlers.asks kind then 1 else 0) + n) is.rounds_are ∙ sym (rounds_more s.centre kind h));
  settled_is = goes.settled_is ∙ (ap (settlers.raised kind (settlers.open_round s.centre h)) is.settled_is ∙ sym (settled_more s.centre kind h));
  round_is = goes.round_is ∙ sym (round_more s.centre kind h);
  gathers = goes.gathers;
  later = λ n c p above. took_more s.centre kind h n c p ∙ goes.later n c p above;
  values_are = λ key below. ap (latest key below) (values_more s.centre kind h) ∙ goes.values_are key below;
  under = goes.under;
})

-- ---- entries that leave the rounds and the values alone

-- An entry of this kind opens and settles no round, and takes no answer.
pub record Rests (kind : Kind) : Type 0 where
  pub asks : settlers.asks kind ≡ false
  pub opened : (round : Option settlers.Round) → settlers.opened kind round ≡ round
  pub raised : (round : Option settlers.Round) (old : ℕ) → settlers.raised kind round old ≡ old
  pub values : settlers.values_in kind ≡ []
  pub takes : (n c p : ℕ) → settlers.takes n c p kind ≡ false
  pub brought : (s n : ℕ) (h : History) → settlers.brought s n kind h ≡ []

rests_gathers : (t : Setting) (h : History) (s : SettlerState) (vector : List Marks) (stopped : Bool) (kind : Kind) (harvest : Gathered) → Rests kind → Gathers t.topology h s harvest
    → Gathers t.topology (by_settler s.centre kind ∷ h) (record s { vector = vector; stopped = stopped }) harvest
rests_gathers t h s vector stopped kind harvest rests is = record {
  topology_is = is.topology_is;
  settler_is = is.settler_is;
  from_is = is.from_is;
  some = is.some;
  marked = is.marked;
  answers_are = λ c p inside within. is.answers_are c p inside within ∙ sym (took_more s.centre kind h s.rounds c p ∙ ap (λ b. b || settlers.took s.centre s.rounds c p h) (rests.takes s.rounds c p));
  items_are = is.items_are ∙ sym (harvest_more s.centre kind h s.rounds ∙ ap (λ items. all_added items (settlers.harvest s.centre s.rounds h)) (rests.brought s.centre s.rounds h));
  inside = is.inside;
}

-- a core that only heard or stopped
pub rests_goes : (t : Setting) (h : History) (actor : Actor) (s : SettlerState) (vector : List Marks) (stopped : Bool) (kind : Kind) → IsSettler t h actor s → Rests kind → stopped ≡ (stops kind || s.stopped)
    → length vector ≡ length s.vector → ((k : ℕ) → k < length s.vector → mark_at vector k ≡ greater (marks_in k kind) (mark_at s.vector k)) → Goes t h s (record s { vector = vector; stopped = stopped }) kind
rests_goes t h actor s vector stopped kind is rests now width marks_are = record {
  stopped_is = now;
  width = width;
  marks_are = marks_are;
  rounds_are = rw rests.asks (omega arith);
  settled_is = sym (rests.raised (settlers.open_round s.centre h) s.settled);
  round_is = is.round_is ∙ sym (rests.opened (settlers.open_round s.centre h));
  gathers = λ harvest there. rests_gathers t h s vector stopped kind harvest rests (is.gathers harvest there);
  later = λ n c p above. ap (λ b. b || settlers.took s.centre n c p h) (rests.takes n c p) ∙ is.later n c p above;
  values_are = λ key below. ap (λ values. latest key below (values ++ settlers.values_of s.centre h)) rests.values ∙ is.values_are key below;
  under = is.under;
}

-- ---- a whole call

-- a call that returns what is given, and after which the core stands for the longer history
pub some_steps : (f : Kind → Bool) (t : Setting) (h : History) (actor : Actor) (act : Act) (s new : SettlerState) (kind : Kind) → IsSettler t h actor s
    → kept f (gives t h actor act) ≡ Some (by_settler s.centre kind) → Goes t h s new kind → Steps IsSettler f t h actor act (Some (by_settler s.centre kind)) (of_settler s new)
some_steps f t h actor act s new kind is given goes = steps IsSettler f t h actor act (Some (by_settler s.centre kind)) (of_settler s new) is.runs.shape (sym given) (goes_stands t h actor s new kind is goes)

-- a call that returns none where none is given
pub none_steps : (f : Kind → Bool) (t : Setting) (h : History) (actor : Actor) (act : Act) (s : SettlerState) → IsSettler t h actor s → kept f (gives t h actor act) ≡ None → Steps IsSettler f t h actor act None s
none_steps f t h actor act s is given = steps IsSettler f t h actor act None s is.runs.shape (sym given) is

-- what a running settler gives for a letter
pub letter_given : (f : Kind → Bool) (t : Setting) (h : History) (actor : Actor) (s : SettlerState) (place : Place) (sent : Letter) (kind : Kind) → IsSettler t h actor s → s.stopped ≡ false
    → letter t.topology h place ≡ Some sent → is_for t.topology sent (Settler s.centre) ≡ true → settler_takes h s.centre place sent ≡ Some kind → f kind ≡ true
    → kept f (gives t h actor (Take place)) ≡ Some (by_settler s.centre kind)
letter_given f t h actor s place sent kind is running there for takes passes =
    ap (kept f) (gives_taken t h actor s.stopped place sent is.runs there) ∙ (rw (is.actor_is, running, for, takes, passes) refl)
