-- Earlier histories: where entries and letters stand in them, and what is gathered over them is part of what is gathered later.
use Rattle.std.proofs.Common.{◌≡◌, ◌==◌, ℕ, ◌+◌, ◌≤◌, ◌<◌, Bool, true, false, Option, Some, None, [], ◌∷◌, ◌++◌, length, refl, ◌∙◌, inr, arith}
use Rattle.std.specs.Prelude.{if◌then◌else◌}
use Rattle.std.proofs.lemmas.Grind.{common_steps}
use Rattle.ov_functor.specs.Windows.{Among}
use Rattle.ov_functor.specs.declared.item.Item.{Item}
use Rattle.ov_functor.proofs.Unions.{among_all_added}
use Rattle.ov_gossip.specs.declared.marks.Marks.{Marks}
use Rattle.ov_session.specs.Events.{greatest}
use Rattle.ov_topology.specs.Shape.{Shape}
use Rattle.ov_topology.specs.declared.actor.Actor.{Actor}
use Rattle.ov_topology.specs.declared.place.Place.{Place}
use Rattle.ov_event.specs.Letters.{letter_in, is_gate}
use Rattle.ov_event.specs.declared.entry.Entry.{Entry}
use Rattle.ov_event.specs.declared.letter.Letter.{Letter}
use Rattle.ov_history.specs.Past.{History, at, before, some, tally, is_node}
use Rattle.ov_history.specs.Letters.{letter, letter_from}
use Rattle.ov_history.specs.Draws.{Drawn, last, time_by}
use Rattle.ov_laws.specs.Draws.{Drew}
use Rattle.ov_history.specs.Marks.{mark, mark_by}
use Rattle.ov_history.specs.Nodes.{held, stored_by}
use Rattle.ov_laws.specs.Holders.{stored, stores}
use Rattle.ov_history.specs.Placement.{acked, acks}
use Rattle.ov_history.specs.May.{Setting, May, Lawful}
use Rattle.ov_history.proofs.Past.{lawful_at, at_most, at_older}

-- ---- places

-- the number of an entry is at least 1
pub at_least : (h : History) (k : ℕ) (e : Entry) → at h k ≡ Some e → 1 ≤ k
at_least [] k e there = cc
at_least (new ∷ h) k e there = grind (arith, at_least h k e)

-- the numbers of a history's entries go from 1 to its length
pub at_bound : (h : History) (k : ℕ) (e : Entry) → at h k ≡ Some e → (1 ≤ k) × (k ≤ length h)
at_bound h k e there = (at_least h k e there, at_most h k e there)

-- the newest entry has the greatest number
pub at_newest : (h : History) (e : Entry) → at (e ∷ h) (length h + 1) ≡ Some e
at_newest h e = grind (arith, common_steps)

-- what stood before an entry stays the same where more follow
pub before_older : (h : History) (k : ℕ) (e new : Entry) → at h k ≡ Some e → before k (new ∷ h) ≡ before k h
before_older h k e new there = let within = at_most h k e there in grind (arith, common_steps)

-- one less entries stand before an entry than its number
pub before_length : (h : History) (k : ℕ) (e : Entry) → at h k ≡ Some e → length (before k h) + 1 ≡ k
before_length [] k e there = cc
before_length (new ∷ h) k e there = grind (arith, before_length h k e)

-- an earlier history has its entries at the same numbers
pub at_before : (h : History) (j i : ℕ) (e : Entry) → at (before j h) i ≡ Some e → at h i ≡ Some e
at_before [] j i e there = there
at_before (new ∷ h) j i e there = grind (arith, at_before h j i e, at_most h i e)

-- what stood before an entry of an earlier history stood there
pub before_before : (h : History) (j i : ℕ) (e : Entry) → at (before j h) i ≡ Some e → before i (before j h) ≡ before i h
before_before [] j i e there = refl
before_before (new ∷ h) j i e there = grind (arith, at_before h j i e, at_most h i e, before_before h j i e)

-- an entry before another stands in what stood before that one
pub at_earlier : (h : History) (j i : ℕ) (e : Entry) → at h i ≡ Some e → i < j → j ≤ length h → at (before j h) i ≡ Some e
at_earlier [] j i e there less within = cc
at_earlier (new ∷ h) j i e there less within = grind (arith, at_earlier h j i e, at_most h i e)

-- an entry keeps its number where others follow
pub at_after : (h more : History) (k : ℕ) (e : Entry) → at h k ≡ Some e → at (more ++ h) k ≡ Some e
at_after h [] k e there = there
at_after h (one ∷ more) k e there = at_older (more ++ h) k e one (at_after h more k e there)

-- what stood before an entry stays the same where others follow
pub before_after : (h more : History) (k : ℕ) (e : Entry) → at h k ≡ Some e → before k (more ++ h) ≡ before k h
before_after h [] k e there = refl
before_after h (one ∷ more) k e there = before_older (more ++ h) k e one (at_after h more k e there) ∙ before_after h more k e there

-- a lawful history was lawful before its newest entries
pub lawful_older : (t : Setting) (h more : History) → Lawful t (more ++ h) → Lawful t h
lawful_older t h [] lawful = lawful
lawful_older t h (one ∷ more) lawful = lawful_older t h more lawful.0

-- ---- letters

-- the letter of an entry is that of its history
pub letter_at : (t : Shape) (h : History) (k number : ℕ) (sent : Letter) → letter_from t (at h k) number ≡ Some sent → (e : Entry) × (at h k ≡ Some e) × (letter_in t e number ≡ Some sent)
letter_at t h k number sent is = by (at h k) refl is
  where
    by : (o : Option Entry) → at h k ≡ o → letter_from t o number ≡ Some sent → (e : Entry) × (at h k ≡ Some e) × (letter_in t e number ≡ Some sent)
    by None same sent_is = cc
    by (Some e) same sent_is = (e, same, sent_is)

-- a letter of an earlier history is at the same place
pub letter_before : (t : Shape) (h : History) (k : ℕ) (place : Place) (sent : Letter) → letter t (before k h) place ≡ Some sent → letter t h place ≡ Some sent
letter_before t h k place sent is =
    let found = letter_at t (before k h) place.entry place.letter sent is in
    rw (at_before h k place.entry found.0 found.1) found.2

-- a letter stays at its place where others follow
pub letter_after : (t : Shape) (h more : History) (place : Place) (sent : Letter) → letter t h place ≡ Some sent → letter t (more ++ h) place ≡ Some sent
letter_after t h more place sent is =
    let found = letter_at t h place.entry place.letter sent is in
    rw (at_after h more place.entry found.0 found.1) found.2

-- a letter of a lawful history is one of an entry that could follow what stood before it
pub letter_lawful : (t : Setting) (h : History) (place : Place) (sent : Letter) → Lawful t h → letter t.topology h place ≡ Some sent → (e : Entry) × (at h place.entry ≡ Some e) × (letter_in t.topology e place.letter ≡ Some sent) × (May t (before place.entry h) e)
letter_lawful t h place sent lawful is =
    let found = letter_at t.topology h place.entry place.letter sent is in
    (found.0, found.1, found.2, lawful_at t h place.entry found.0 lawful found.1)

-- ---- what is gathered

-- what an entry says is at most the greatest
pub greatest_at : (f : Entry → ℕ) (h : History) (k : ℕ) (e : Entry) → at h k ≡ Some e → f e ≤ greatest f h
greatest_at f [] k e there = cc
greatest_at f (new ∷ h) k e there = grind (arith, greatest_at f h k e)

-- where an entry passes, some entry passes
pub some_at : (f : Entry → Bool) (h : History) (k : ℕ) (e : Entry) → at h k ≡ Some e → f e ≡ true → some f h ≡ true
some_at f [] k e there passes = cc
some_at f (new ∷ h) k e there passes = grind (arith, some_at f h k e)

-- the greatest number of an earlier history is not greater
pub greatest_before : (f : Entry → ℕ) (h : History) (k : ℕ) → greatest f (before k h) ≤ greatest f h
greatest_before f [] k = omega arith
greatest_before f (new ∷ h) k = let rest = greatest_before f h k in grind arith

-- an entry of an earlier history that passes still does
pub some_before : (f : Entry → Bool) (h : History) (k : ℕ) → some f (before k h) ≡ true → some f h ≡ true
some_before f [] k passes = passes
some_before f (new ∷ h) k passes = let rest = some_before f h k in grind (arith, common_steps)

-- of an earlier history no more entries pass
pub tally_before : (f : Entry → Bool) (h : History) (k : ℕ) → tally f (before k h) ≤ tally f h
tally_before f [] k = omega arith
tally_before f (new ∷ h) k = let rest = tally_before f h k in grind (arith, common_steps)

-- what a gateway began earlier it began
pub drew_before : (g : ℕ) (drawn : Drawn) (h : History) (k : ℕ) → Drew g drawn (before k h) → Drew g drawn h
drew_before g drawn [] k drew = drew
drew_before g drawn (new ∷ h) k drew = by (k == length h + 1) drew (drew_before g drawn h k)
  where
    by : (b : Bool) → Drew g drawn (if b then h else before k h) → (Drew g drawn (before k h) → Drew g drawn h) → Drew g drawn (new ∷ h)
    by true old rest = inr old
    by false old rest = inr (rest old)

-- the last time of a gateway does not fall
pub last_before : (g : ℕ) (h : History) (k : ℕ) → last g (before k h) ≤ last g h
last_before g h k = greatest_before (time_by g) h k

-- a known mark does not fall
pub mark_before : (which : Marks → ℕ) (a : Actor) (g : ℕ) (h : History) (k : ℕ) → mark which a g (before k h) ≤ mark which a g h
mark_before which a g h k = greatest_before (mark_by which a g) h k

-- what a node stored stays stored
pub stored_before : (c p v : ℕ) (h : History) (k : ℕ) → stored c p v (before k h) ≡ true → stored c p v h ≡ true
stored_before c p v h k is = some_before (λ e. if is_node c p e.actor then stores v e.kind else false) h k is

-- an acknowledgement that a gateway took stays taken
pub acked_before : (g v c p : ℕ) (h : History) (k : ℕ) → acked g v c p (before k h) ≡ true → acked g v c p h ≡ true
acked_before g v c p h k is = some_before (λ e. if is_gate g e.actor then acks v c p e.kind else false) h k is

-- an item that a node held earlier it holds
pub held_before : (c p : ℕ) (item : Item) (h : History) (k : ℕ) → Among item (held c p (before k h)) → Among item (held c p h)
held_before c p item [] k among = among
held_before c p item (new ∷ h) k among = among_all_added item (stored_by c p new) (held c p h) (by (k == length h + 1) among (held_before c p item h k))
  where
    by : (b : Bool) → Among item (held c p (if b then h else before k h)) → (Among item (held c p (before k h)) → Among item (held c p h)) → Among item (held c p h)
    by true old rest = old
    by false old rest = rest old
