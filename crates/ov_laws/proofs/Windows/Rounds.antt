-- Rounds of settlers: each is asked for once, and what its answers say of what nodes held when it was asked for.
use Rattle.std.proofs.Common.{◌≡◌, ◌==◌, ℕ, ◌+◌, ◌≤◌, ◌<◌, Bool, true, false, not, ◌&&◌, ◌||◌, ◌⊎◌, inl, inr, Option, Some, List, [], ◌∷◌, length, refl, sym, ap, subst, ◌∙◌, arith}
use Rattle.std.specs.Prelude.{if◌then◌else◌}
use Rattle.std.proofs.lemmas.Grind.{common_steps}
use Rattle.ov_functor.specs.Windows.{Among, HasItem}
use Rattle.ov_functor.specs.declared.item.Item.{Item}
use Rattle.ov_functor.specs.Unions.{all_added, is_inside}
use Rattle.ov_topology.specs.Shape.{Shape}
use Rattle.ov_topology.specs.declared.actor.Actor.{Actor}
use Rattle.ov_topology.specs.declared.actor.Actor.TheVariants.{Gate, Node, Settler}
use Rattle.ov_topology.specs.declared.place.Place.{Place}
use Rattle.ov_event.specs.Letters.{is_settler}
use Rattle.ov_event.specs.declared.entry.Entry.{Entry}
use Rattle.ov_event.specs.declared.kind.Kind.{Kind}
use Rattle.ov_event.specs.declared.kind.Kind.TheVariants as kinds
use Rattle.ov_history.specs.Past.{History, at, before}
use Rattle.ov_history.specs.Nodes.{held}
use Rattle.ov_history.specs.Settlers.{Round, opened, open_round, rounds, takes, took, brought, harvest}
use Rattle.ov_history.specs.May.{Setting, May, Lawful, MayAnswer, MayTake}
use Rattle.ov_history.specs.Serial.{InWindow}
use Rattle.ov_laws.proofs.History.Sent.{ask_sent, answer_sent}
use Rattle.ov_history.proofs.Past.{lawful_at, lawful_before, at_older}
use Rattle.ov_laws.proofs.History.Earlier.{at_before, at_newest, before_before, held_before, letter_at}
use Rattle.ov_functor.proofs.Unions.{all_added_comes, all_added_has, has_keeps}
use Rattle.ov_laws.proofs.Windows.Added.{filter_keeps, filter_comes}
use Rattle.ov_laws.proofs.Windows.Holdings.{begun_before, held_is_begun}

-- ---- rounds that are asked for

-- the entry by which a settler asks for a round
abbrev pub asked_by : ℕ → Round → Entry
asked_by s round = record { actor = Settler s; kind = kinds.Asked round.number round.mode round.from round.below }

-- the settler of this number is this one
pub settler_is : (s : ℕ) (a : Actor) → is_settler s a ≡ true → a ≡ Settler s
settler_is s (Settler other) is = let same : other ≡ s = grind (arith, common_steps) in ap (λ (n : ℕ). Settler n) same
settler_is s (Gate g) is = absurd (cc)
settler_is s (Node c p) is = absurd (cc)

-- a round is open by this entry or was open
opened_by : (k : Kind) (old : Option Round) (round : Round) → opened k old ≡ Some round → (k ≡ kinds.Asked round.number round.mode round.from round.below) ⊎ (old ≡ Some round)
opened_by (kinds.Asked number mode from below) old round is =
    let same : ◌≡◌ {A = Round} (record { number = number; mode = mode; from = from; below = below }) round = cc in
    inl (ap (λ (one : Round). kinds.Asked one.number one.mode one.from one.below) same)
opened_by (kinds.Settled values) old round is = absurd (cc)
opened_by k old round is = inr is

-- an open round was asked for
pub open_is_asked : (h : History) (s : ℕ) (round : Round) → open_round s h ≡ Some round → (k : ℕ) × (at h k ≡ Some (asked_by s round))
open_is_asked [] s round is = absurd (cc)
open_is_asked (e ∷ h) s round is = by (is_settler s e.actor) refl is (open_is_asked h s round)
  where
    older : (k : ℕ) × (at h k ≡ Some (asked_by s round)) → (k : ℕ) × (at (e ∷ h) k ≡ Some (asked_by s round))
    older found = (found.0, at_older h found.0 (asked_by s round) e found.1)

    of : is_settler s e.actor ≡ true → (e.kind ≡ kinds.Asked round.number round.mode round.from round.below) ⊎ (open_round s h ≡ Some round)
        → (open_round s h ≡ Some round → (k : ℕ) × (at h k ≡ Some (asked_by s round))) → (k : ℕ) × (at (e ∷ h) k ≡ Some (asked_by s round))
    of own (inl new) later =
        let actor_is = settler_is s e.actor own in
        let same : e ≡ asked_by s round = λ i. record { actor = actor_is i; kind = new i } in
        (length h + 1, at_newest h e ∙ ap (λ (one : Entry). Some one) same)
    of own (inr old) later = older (later old)

    by : (b : Bool) → is_settler s e.actor ≡ b → (if b then opened e.kind (open_round s h) else open_round s h) ≡ Some round
        → (open_round s h ≡ Some round → (k : ℕ) × (at h k ≡ Some (asked_by s round))) → (k : ℕ) × (at (e ∷ h) k ≡ Some (asked_by s round))
    by true own now later = of own (opened_by e.kind (open_round s h) round now) later
    by false own now later = older (later now)

-- a round that may be asked for is the next one
next_round : (t : Setting) (h : History) (e : Entry) (s : ℕ) (round : Round) → May t h e → e ≡ asked_by s round → round.number ≡ rounds s h + 1
next_round t h e s round may is = let mine : May t h (asked_by s round) = subst (λ (one : Entry). May t h one) is may in mine.guard.next

-- no round has a number above how many there are
asked_bound : (t : Setting) (h : History) (i s : ℕ) (round : Round) → Lawful t h → at h i ≡ Some (asked_by s round) → round.number ≤ rounds s h
asked_bound t [] i s round lawful there = absurd (cc)
asked_bound t (new ∷ h) i s round lawful there = by (i == length h + 1) there (asked_bound t h i s round lawful.0)
  where
    by : (b : Bool) → (if b then Some new else at h i) ≡ Some (asked_by s round) → (at h i ≡ Some (asked_by s round) → round.number ≤ rounds s h) → round.number ≤ rounds s (new ∷ h)
    by true is later =
        let same : new ≡ asked_by s round = cc in
        let next : round.number ≡ rounds s h + 1 = next_round t h new s round lawful.1 same in
        rw same (grind (arith, common_steps))
    by false is later = let old : round.number ≤ rounds s h = later is in grind (arith)

-- a settler asks for a round once
pub ask_once : (t : Setting) (h : History) (i j s : ℕ) (one other : Round) → Lawful t h → one.number ≡ other.number → at h i ≡ Some (asked_by s one) → at h j ≡ Some (asked_by s other) → i ≡ j
ask_once t [] i j s one other lawful same left right = absurd (cc)
ask_once t (new ∷ h) i j s one other lawful same left right = by (i == length h + 1) (j == length h + 1) refl refl left right (ask_once t h i j s one other lawful.0 same)
  where
    by : (a b : Bool) → (i == length h + 1) ≡ a → (j == length h + 1) ≡ b → (if a then Some new else at h i) ≡ Some (asked_by s one) → (if b then Some new else at h j) ≡ Some (asked_by s other)
        → (at h i ≡ Some (asked_by s one) → at h j ≡ Some (asked_by s other) → i ≡ j) → i ≡ j
    by true true u v left right later = grind (arith, common_steps)
    by true false u v left right later =
        let is : new ≡ asked_by s one = cc in
        let next : one.number ≡ rounds s h + 1 = next_round t h new s one lawful.1 is in
        let old : other.number ≤ rounds s h = asked_bound t h j s other lawful.0 right in
        absurd (omega (arith, next, old, same))
    by false true u v left right later =
        let is : new ≡ asked_by s other = cc in
        let next : other.number ≡ rounds s h + 1 = next_round t h new s other lawful.1 is in
        let old : one.number ≤ rounds s h = asked_bound t h i s one lawful.0 left in
        absurd (omega (arith, next, old, same))
    by false false u v left right later = later left right

-- ---- answers

-- where an item lies inside, its version does
inside_is : (from below : ℕ) (item : Item) → is_inside from below item ≡ true → (from ≤ item.version) × (item.version < below)
inside_is from below item is = (grind (arith, common_steps), grind (arith, common_steps))

-- where the version of an item lies inside, the item does
inside_by : (from below : ℕ) (item : Item) → from ≤ item.version → item.version < below → is_inside from below item ≡ true
inside_by from below item low high = grind (arith, common_steps)

-- An answer has all that the node held of the window when the round was asked for, and nothing outside of the window.
pub record Tells (h : History) (k c p : ℕ) (round : Round) (items : List Item) : Type 0 where
  pub all : (item : Item) → Among item (held c p (before k h)) → round.from ≤ item.version → item.version < round.below → Among item items
  pub comes : (item : Item) → Among item items → InWindow h round.from round.below item

-- the entry by which a settler takes an answer
abbrev pub taken_by : ℕ → ℕ → ℕ → ℕ → Place → List Item → Entry
taken_by s n c p place items = record { actor = Settler s; kind = kinds.Taken place n c p items }

-- What a node that may answer was asked is what the settler asked for where it opened the round of that number.
pub record IsQuestion (t : Shape) (h : History) (k j s : ℕ) (round : Round) (c p : ℕ) (place : Place) (items : List Item) (may : MayAnswer t (before j h) place c p s round.number items) : Type 0 where
  pub asked : at (before j h) place.entry ≡ Some (asked_by s (record { number = round.number; mode = may.mode; from = may.from; below = may.below }))
  pub same : place.entry ≡ k
  pub from_is : may.from ≡ round.from
  pub below_is : may.below ≡ round.below

-- a node that may answer was asked for the window of the round
pub question : (t : Setting) (h : History) (k j s : ℕ) (round : Round) (c p : ℕ) (place : Place) (items : List Item) → Lawful t h → at h k ≡ Some (asked_by s round)
    → (may : MayAnswer t.topology (before j h) place c p s round.number items) → IsQuestion t.topology h k j s round c p place items may
question t h k j s round c p place items lawful ask may =
    let letter = letter_at t.topology (before j h) place.entry place.letter _ may.sent.there in
    let asking : Round = record { number = round.number; mode = may.mode; from = may.from; below = may.below } in
    let sent : letter.0 ≡ asked_by s asking = ask_sent t.topology letter.0 place.letter s round.number may.mode may.from may.below letter.2 in
    let i = place.entry in
    let asked : at (before j h) i ≡ Some (asked_by s asking) = letter.1 ∙ ap (λ (e : Entry). Some e) sent in
    let asked_at : at h i ≡ Some (asked_by s asking) = at_before h j i (asked_by s asking) asked in
    let one : i ≡ k = ask_once t h i k s asking round lawful refl asked_at ask in
    let both : ◌≡◌ {A = Option Entry} (Some (asked_by s asking)) (Some (asked_by s round)) = sym asked_at ∙ (ap (at h) one ∙ ask) in
    let entry_is : asked_by s asking ≡ asked_by s round = cc in
    record { asked = asked; same = one; from_is = grind (arith, common_steps); below_is = grind (arith, common_steps) }

-- a node that may answer what is asked for tells of the window
answer_tells : (t : Setting) (h : History) (k j s : ℕ) (round : Round) (c p : ℕ) (place : Place) (items : List Item) → Lawful t h → at h k ≡ Some (asked_by s round)
    → MayAnswer t.topology (before j h) place c p s round.number items → Tells h k c p round items
answer_tells t h k j s round c p place items lawful ask may =
    let asking : Round = record { number = round.number; mode = may.mode; from = may.from; below = may.below } in
    let is = question t h k j s round c p place items lawful ask may in
    let i = place.entry in
    let from_is : may.from ≡ round.from = is.from_is in
    let below_is : may.below ≡ round.below = is.below_is in
    let past : before i (before j h) ≡ before k h = before_before h j i (asked_by s asking) is.asked ∙ ap (λ (n : ℕ). before n h) is.same in
    let old : Lawful t (before j h) = lawful_before t h j lawful in
    record {
      all = λ item among low high.
          let had : Among item (held c p (before j h)) = held_before c p item (before j h) i (subst (λ (l : History). Among item (held c p l)) (sym past) among) in
          let inside : is_inside may.from may.below item ≡ true = inside_by may.from may.below item (omega (arith, low, from_is)) (omega (arith, high, below_is)) in
          subst (λ (list : List Item). Among item list) (sym may.all) (filter_keeps (is_inside may.from may.below) item (held c p (before j h)) had inside);
      comes = λ item among.
          let is = filter_comes (is_inside may.from may.below) item (held c p (before j h)) (subst (λ (list : List Item). Among item list) may.all among) in
          let bounds = inside_is may.from may.below item is.1 in
          let low : may.from ≤ item.version = bounds.0 in
          let high : item.version < may.below = bounds.1 in
          let begun = held_is_begun t (before j h) c p item old is.0 in
          record {
            transaction = begun.transaction;
            begun = begun_before t h j item.version begun.transaction lawful old begun.begun;
            within = begun.within;
            low = omega (arith, low, from_is);
            high = omega (arith, high, below_is);
          };
    }

-- an answer that was taken tells of the window
pub taken_tells : (t : Setting) (h : History) (k number s : ℕ) (round : Round) (c p : ℕ) (place : Place) (items : List Item) → Lawful t h → at h k ≡ Some (asked_by s round)
    → at h number ≡ Some (taken_by s round.number c p place items) → Tells h k c p round items
taken_tells t h k number s round c p place items lawful ask there =
    let take : MayTake t.topology (before number h) place s round.number c p items = (lawful_at t h number (taken_by s round.number c p place items) lawful there).guard in
    let answering = letter_at t.topology (before number h) place.entry place.letter _ take.sent.there in
    let sent = answer_sent t.topology answering.0 place.letter s round.number c p items answering.2 in
    let answered_by : Entry = record { actor = Node c p; kind = kinds.Answered sent.0 s round.number items } in
    let answered : at h place.entry ≡ Some answered_by = at_before h number place.entry answered_by (answering.1 ∙ ap (λ (e : Entry). Some e) sent.1) in
    let may : MayAnswer t.topology (before place.entry h) sent.0 c p s round.number items = (lawful_at t h place.entry answered_by lawful answered).guard in
    answer_tells t h k place.entry s round c p sent.0 items lawful ask may

-- ---- harvests

-- The settler took an answer of the round with the item.
pub record InAnswer (h : History) (s n : ℕ) (item : Item) : Type 0 where
  pub centre : ℕ
  pub part : ℕ
  pub place : Place
  pub items : List Item
  pub number : ℕ
  pub there : at h number ≡ Some (taken_by s n centre part place items)
  pub within : Among item items

-- what an entry brings stands in an answer
brought_in : (h : History) (a : Actor) (k : Kind) (s n : ℕ) (item : Item) → is_settler s a ≡ true → Among item (brought s n k h) → InAnswer (record { actor = a; kind = k } ∷ h) s n item
brought_in h a (kinds.Taken place round c p items) s n item own among = by ((round == n) && not (took s n c p h)) refl among
  where
    by : (b : Bool) → ((round == n) && not (took s n c p h)) ≡ b → Among item (if b then items else []) → InAnswer (record { actor = a; kind = kinds.Taken place round c p items } ∷ h) s n item
    by true is here =
        let actor_is = settler_is s a own in
        let round_is : round ≡ n = grind (arith, common_steps) in
        let same : ◌≡◌ {A = Entry} (record { actor = a; kind = kinds.Taken place round c p items }) (taken_by s n c p place items) = λ i. record { actor = actor_is i; kind = kinds.Taken place (round_is i) c p items } in
        record { centre = c; part = p; place = place; items = items; number = length h + 1; there = at_newest h _ ∙ ap (λ (one : Entry). Some one) same; within = here }
    by false is here = absurd here
brought_in h a k s n item own among = absurd among

-- a harvest comes from answers
pub harvest_comes : (h : History) (s n : ℕ) (item : Item) → Among item (harvest s n h) → InAnswer h s n item
harvest_comes [] s n item among = absurd among
harvest_comes (e ∷ h) s n item among = by (is_settler s e.actor) refl among (harvest_comes h s n item)
  where
    older : InAnswer h s n item → InAnswer (e ∷ h) s n item
    older is = record { centre = is.centre; part = is.part; place = is.place; items = is.items; number = is.number; there = at_older h is.number (taken_by s n is.centre is.part is.place is.items) e is.there; within = is.within }

    of : is_settler s e.actor ≡ true → Among item (brought s n e.kind h) ⊎ Among item (harvest s n h) → (Among item (harvest s n h) → InAnswer h s n item) → InAnswer (e ∷ h) s n item
    of own (inl new) later = brought_in h e.actor e.kind s n item own new
    of own (inr old) later = older (later old)

    by : (b : Bool) → is_settler s e.actor ≡ b → Among item (if b then all_added (brought s n e.kind h) (harvest s n h) else harvest s n h)
        → (Among item (harvest s n h) → InAnswer h s n item) → InAnswer (e ∷ h) s n item
    by true own here later = of own (all_added_comes item (brought s n e.kind h) (harvest s n h) here) later
    by false own here later = older (later here)

-- The first answer of a node to a round, of which the harvest has an item for each item.
pub record First (h : History) (s n c p : ℕ) : Type 0 where
  pub number : ℕ
  pub place : Place
  pub items : List Item
  pub there : at h number ≡ Some (taken_by s n c p place items)
  pub all : (item : Item) → Among item items → HasItem (harvest s n h) item.version item.key

-- a node's first answer stays its first
first_older : (e : Entry) (h : History) (s n c p : ℕ) → First h s n c p → First (e ∷ h) s n c p
first_older e h s n c p first = record {
  number = first.number;
  place = first.place;
  items = first.items;
  there = at_older h first.number (taken_by s n c p first.place first.items) e first.there;
  all = λ item among. by (is_settler s e.actor) item (first.all item among);
}
  where
    by : (b : Bool) (item : Item) → HasItem (harvest s n h) item.version item.key → HasItem (if b then all_added (brought s n e.kind h) (harvest s n h) else harvest s n h) item.version item.key
    by true item has = has_keeps (brought s n e.kind h) (harvest s n h) item.version item.key has
    by false item has = has

-- an answer of a node that had not answered is its first
first_new : (h : History) (a : Actor) (k : Kind) (s n c p : ℕ) → (if is_settler s a then takes n c p k else false) ≡ true → took s n c p h ≡ false → First (record { actor = a; kind = k } ∷ h) s n c p
first_new h (Settler z) (kinds.Taken place round d q items) s n c p is fresh =
    let settler_same : z ≡ s = grind (arith, common_steps) in
    let round_is : round ≡ n = grind (arith, common_steps) in
    let centre_is : d ≡ c = grind (arith, common_steps) in
    let part_is : q ≡ p = grind (arith, common_steps) in
    let taken : brought s n (kinds.Taken place round d q items) h ≡ items = rw (round_is, centre_is, part_is, fresh) (grind (arith, common_steps)) in
    let same : ◌≡◌ {A = Entry} (record { actor = Settler z; kind = kinds.Taken place round d q items }) (taken_by s n c p place items) =
    λ i. record { actor = Settler (settler_same i); kind = kinds.Taken place (round_is i) (centre_is i) (part_is i) items } in
    record {
      number = length h + 1;
      place = place;
      items = items;
      there = at_newest h _ ∙ ap (λ (one : Entry). Some one) same;
      all = λ item among. by (z == s) (grind (arith, common_steps)) item (subst (λ (list : List Item). Among item list) (sym taken) among);
    }
  where
    by : (b : Bool) → b ≡ true → (item : Item) → Among item (brought s n (kinds.Taken place round d q items) h)
        → HasItem (if b then all_added (brought s n (kinds.Taken place round d q items) h) (harvest s n h) else harvest s n h) item.version item.key
    by true own item among = all_added_has item (brought s n (kinds.Taken place round d q items) h) (harvest s n h) among
    by false own item among = absurd (cc)
first_new h a k s n c p is fresh = absurd (grind (arith, common_steps))

-- a node whose answer was taken has a first one
pub took_first : (h : History) (s n c p : ℕ) → took s n c p h ≡ true → First h s n c p
took_first [] s n c p is = absurd (cc)
took_first (e ∷ h) s n c p is = by (took s n c p h) (if is_settler s e.actor then takes n c p e.kind else false) refl refl is (took_first h s n c p)
  where
    by : (a b : Bool) → took s n c p h ≡ a → (if is_settler s e.actor then takes n c p e.kind else false) ≡ b → (b || a) ≡ true → (took s n c p h ≡ true → First h s n c p) → First (e ∷ h) s n c p
    by true b was new either later = first_older e h s n c p (later was)
    by false true was new either later = first_new h e.actor e.kind s n c p new was
    by false false was new either later = absurd (cc)
