-- Where an entry is found that passes, and lists and what they have.
use Rattle.std.proofs.Common.{◌≡◌, ℕ, zero, suc, ◌<◌, ◌+◌, ◌==◌, Bool, true, false, ◌||◌, Some, None, List, [], ◌∷◌, ◌++◌, length, refl, sym, ap, subst, arith, inl, inr}
use Rattle.std.specs.Prelude.{get_or, if◌then◌else◌}
use Rattle.std.specs.List.{AllByRecursion}
use Rattle.std.proofs.lemmas.Bool.{eqb-true}
use Rattle.std.proofs.lemmas.Grind.{common_steps}
use Rattle.std.proofs.lemmas.Option.{same_Some}
use Rattle.ov_functor.specs.declared.part.Part.{Part}
use Rattle.ov_topology.specs.declared.actor.Actor.{Actor}
use Rattle.ov_topology.specs.declared.actor.Actor.TheVariants.{Gate}
use Rattle.ov_event.specs.declared.kind.Kind.{Kind}
use Rattle.ov_event.specs.declared.kind.Kind.TheVariants.{Began}
use Rattle.ov_event.specs.declared.start.Start.TheVariants.{Draw}
use Rattle.ov_history.specs.Draws.{Drawn, draw_of}
use Rattle.ov_laws.specs.Draws.{Drew}
use Rattle.ov_laws.specs.Entries.{began_by}
use Rattle.ov_functor.specs.Windows.{Among}
use Rattle.ov_event.specs.declared.entry.Entry.{Entry}
use Rattle.ov_history.specs.Past.{History, at, some}
use Rattle.ov_history.specs.May.{Setting}
use Rattle.ov_history.specs.Gives.{gives}
use Rattle.ov_history.proofs.Past.{at_older}
use Rattle.ov_laws.proofs.History.Earlier.{at_newest}
use Rattle.ov_follow.specs.Lines.{Line}
use Rattle.ov_complete.specs.Stable.{GiveOnly}

-- ---- entries

-- An entry of the history passes the test.
pub record Found (f : Entry → Bool) (h : History) : Type 0 where
  pub number : ℕ
  pub entry : Entry
  pub there : at h number ≡ Some entry
  pub passes : f entry ≡ true

-- an entry of a history is one of a longer history
found_older : (f : Entry → Bool) (h : History) (e : Entry) → Found f h → Found f (e ∷ h)
found_older f h e found = record { number = found.number; entry = found.entry; there = at_older h found.number found.entry e found.there; passes = found.passes }

-- where some entry passes, it is found
pub some_found : (f : Entry → Bool) (h : History) → some f h ≡ true → Found f h
some_found f [] is = absurd cc
some_found f (e ∷ h) is = by (f e) refl is (some_found f h)
  where
    by : (b : Bool) → f e ≡ b → (b || some f h) ≡ true → (some f h ≡ true → Found f h) → Found f (e ∷ h)
    by true passes is older = record { number = length h + 1; entry = e; there = at_newest h e; passes = passes }
    by false fails is older = found_older f h e (older is)

-- what a gateway began, it began by one of the entries
pub drew_found : (g : ℕ) (drawn : Drawn) (h : History) → Drew g drawn h → (k : ℕ) × (e : Entry) × (at h k ≡ Some e) × (draw_of g e ≡ Some drawn)
drew_found g drawn [] drew = absurd drew
drew_found g drawn (new ∷ h) (inl here) = (length h + 1, new, at_newest h new, here)
drew_found g drawn (new ∷ h) (inr older) = let found = drew_found g drawn h older in (found.0, found.1, at_older h found.0 found.1 new found.2, found.3)

-- the entry by which a gateway began this
pub draw_is : (g : ℕ) (e : Entry) (drawn : Drawn) → draw_of g e ≡ Some drawn → e ≡ began_by g drawn.session drawn.seq (Draw drawn.version drawn.transaction)
draw_is g e drawn is = by e.actor e.kind is
  where
    by_gate : (other s c version : ℕ) (transaction : List Part) (b : Bool) → (other == g) ≡ b
        → (if b then Some (record { session = s; seq = c; version = version; transaction = transaction }) else None) ≡ Some drawn
        → began_by other s c (Draw version transaction) ≡ began_by g drawn.session drawn.seq (Draw drawn.version drawn.transaction)
    by_gate other s c version transaction true own made =
        let same : other ≡ g = eqb-true other g own in
        subst (λ (x : Drawn). began_by other s c (Draw version transaction) ≡ began_by g x.session x.seq (Draw x.version x.transaction))
        (same_Some (record { session = s; seq = c; version = version; transaction = transaction }) drawn made) (rw same refl)
    by_gate other s c version transaction false own made = absurd cc

    by : (a : Actor) (kind : Kind) → draw_of g (record { actor = a; kind = kind }) ≡ Some drawn
        → ◌≡◌ {A = Entry} (record { actor = a; kind = kind }) (began_by g drawn.session drawn.seq (Draw drawn.version drawn.transaction))
    by (Gate other) (Began s c (Draw version transaction)) made = by_gate other s c version transaction (other == g) refl made
    by a kind made = absurd (grind (arith, common_steps))

-- ---- lists

-- what holds of all that a list has holds of each of its elements
pub all_among : {X : Type 0} (P : X → Type 0) (xs : List X) → ((x : X) → Among x xs → P x) → AllByRecursion P xs
all_among P [] each = tt
all_among P (x ∷ xs) each = (each x (inl refl), all_among P xs (λ y among. each y (inr among)))

-- An element of a list, with what stands before it and behind it.
pub record Split {X : Type 0} (x : X) (xs : List X) : Type 0 where
  pub front : List X
  pub back : List X
  pub split : xs ≡ front ++ x ∷ back

-- a list is split at what it has
pub among_split : {X : Type 0} (x : X) (xs : List X) → Among x xs → Split x xs
among_split x [] among = absurd among
among_split x (y ∷ xs) (inl same) = record { front = []; back = xs; split = ap (λ z. z ∷ xs) (sym same) }
among_split x (y ∷ xs) (inr among) =
    let rest = among_split x xs among in
    record { front = y ∷ rest.front; back = rest.back; split = ap (λ zs. y ∷ zs) rest.split }

-- what holds of each holds of the one at a place
pub recursion_at : {X : Type 0} (P : X → Type 0) (xs : List X) (i : ℕ) (d : X) → AllByRecursion P xs → i < length xs → P (get_or xs i d)
recursion_at P [] i d all less = absurd (omega (arith, less))
recursion_at P (x ∷ xs) zero d all less = all.0
recursion_at P (x ∷ xs) (suc i) d all less = recursion_at P xs i d all.1 (omega (arith, less))

-- ---- lines

-- what lines give, their first ones give and those behind
pub give_parts : (t : Setting) (test : Entry → Bool) (first others : List Line) → GiveOnly t test (first ++ others) → GiveOnly t test first × GiveOnly t test others
give_parts t test [] others gives = (tt, gives)
give_parts t test (line ∷ first) others gives = let rest = give_parts t test first others gives.1 in ((gives.0, rest.0), rest.1)
