-- Links over the nodes of a lawful history: what a whole harvest has is the window of its round.
use Rattle.std.proofs.Common.{◌≡◌, ℕ, ◌+◌, ◌≤◌, ◌<◌, Bool, true, false, inl, inr, ◌⊎◌, Option, Some, List, [], ◌∷◌, length, get_or, refl, sym, ap, subst, ◌∙◌, arith}
use Rattle.std.proofs.Math.Nat.{mod-lt}
use Rattle.std.proofs.lemmas.Grind.{common_steps}
use Rattle.ov_functor.specs.Unions.{is_inside, union}
use Rattle.ov_functor.specs.Windows.{Among}
use Rattle.ov_functor.specs.declared.item.Item.{Item}
use Rattle.ov_functor.specs.declared.part.Part.{Part}
use Rattle.ov_functor.proofs.Unions.{all_added_comes, all_added_has}
use Rattle.ov_topology.specs.Shape.{Shape, IsShape, byte_sum, place_of, votes_of}
use Rattle.ov_topology.specs.declared.actor.Actor.TheVariants.{Settler}
use Rattle.ov_topology.specs.declared.mode.Mode.{Mode}
use Rattle.ov_topology.specs.declared.mode.Mode.TheVariants.{Quorum, One}
use Rattle.ov_event.specs.Letters.{touches}
use Rattle.ov_event.specs.declared.entry.Entry.{Entry}
use Rattle.ov_history.specs.Counts.{all_below, weight}
use Rattle.ov_history.specs.Marks.{visible, replicated}
use Rattle.ov_history.specs.May.{Setting, Lawful, May, MayAsk}
use Rattle.ov_history.specs.Nodes.{held}
use Rattle.ov_history.specs.Past.{History, at, before}
use Rattle.ov_history.specs.Serial.{InWindow, begun_at}
use Rattle.ov_history.specs.Settlers.{Round}
use Rattle.ov_history.proofs.Given.{all_below_at}
use Rattle.ov_history.proofs.Past.{lawful_at, lawful_before, at_older}
use Rattle.ov_window.specs.Harvest.{Gathered, IsComplete, IsEnough, IsMarked, IsWhole, has_answered, marks_of}
use Rattle.ov_laws.specs.Final.{Final, FinalAll, IsClosed}
use Rattle.ov_laws.specs.Harvests.{IsWindow}
use Rattle.ov_laws.specs.Holders.{holders, stored}
use Rattle.ov_laws.proofs.History.Earlier.{at_newest, held_before}
use Rattle.ov_laws.proofs.Times.Begun.{final_all_begun, final_begun}
use Rattle.ov_laws.proofs.Watermarks.Finals.{replicated_final, visible_final}
use Rattle.ov_laws.proofs.Windows.Added.{filter_comes, filter_keeps, items_touch}
use Rattle.ov_laws.proofs.Windows.Harvests.{begun_earlier}
use Rattle.ov_laws.proofs.Windows.Holdings.{IsBegun, held_is_begun, one_item, stored_is_held}
use Rattle.ov_laws.proofs.Windows.Meets.{quorums_meet}
use Rattle.ov_laws.proofs.Windows.Rounds.{asked_by}
use Rattle.ov_link.specs.Gathering.{IsHeld, IsUnionOf}
use Rattle.ov_link.specs.Histories.{AreNodesOf, IsAsked}
use Rattle.ov_link.proofs.Passing.{marked_in, marks_passing, row_in}

-- ---- entries and marks

-- an entry of a history stands at a number
entry_at : (h : History) (e : Entry) → Among e h → (k : ℕ) × (at h k ≡ Some e)
entry_at [] e among = absurd among
entry_at (new ∷ h) e (inl is) = (length h + 1, at_newest h new ∙ ap (λ (one : Entry). Some one) (sym is))
entry_at (new ∷ h) e (inr later) = let found = entry_at h e later in (found.0, at_older h found.0 e new found.1)

-- a node that answered is in the topology
pub answered_in : (t : Shape) (g : Gathered) (c p : ℕ) → IsMarked t g.answered → has_answered g c p ≡ true → (c < t.centres) × (p < t.partitions)
answered_in t g c p marks is =
    let marked : c < length (marks_of g p) = marked_in (marks_of g p) c is in
    let part : p < t.partitions = omega (arith, row_in g.answered p c marked, marks.partitions) in
    (omega (arith, marked, marks.centres p part), part)

-- the votes of the nodes of a partition that answered
enough_votes : (t : Shape) (g : Gathered) (p : ℕ) → IsMarked t g.answered → p < t.partitions → t.read ≤ votes_of t (marks_of g p) → t.read ≤ weight t (λ c. has_answered g c p)
enough_votes t g p marks part enough =
    subst (λ (list : List Bool). t.read ≤ votes_of t list) (marks_passing (λ c. has_answered g c p) t.centres (marks_of g p) (marks.centres p part) (λ c less. refl)) enough

-- ---- what the answers meet

-- Nothing more is begun below the upper end since the round was asked for, and each version below it was held then, in each partition
-- that it touches, by a node that answered.
record MeetsAnswers (t : Setting) (h : History) (k : ℕ) (g : Gathered) : Type 0 where
  closed : IsClosed t.topology (before k h) g.round.below
  both : (version : ℕ) (transaction : List Part) (p : ℕ) → begun_at (before k h) version ≡ Some transaction → version < g.round.below → p < t.topology.partitions
      → touches t.topology transaction p ≡ true → (c : ℕ) × (c < t.topology.centres) × (stored c p version (before k h) ≡ true) × (has_answered g c p ≡ true)

-- a read quorum of answers meets the write quorum of each version below the visibility watermark
meets_quorum : (t : Setting) (h : History) (k : ℕ) (g : Gathered) → IsShape t.topology → Lawful t (before k h) → IsMarked t.topology g.answered → Final t.topology (before k h) g.round.below
    → ((p : ℕ) → p < t.topology.partitions → IsEnough t.topology g.round.settler (marks_of g p) Quorum) → MeetsAnswers t h k g
meets_quorum t h k g shape old marks final enough = record {
  closed = final.closed;
  both = λ version transaction p begun less inside touched.
      let written : t.topology.write ≤ holders t.topology version p (before k h) = final_begun t (before k h) g.round.below old final version transaction p begun less inside touched in
      let read : t.topology.read ≤ weight t.topology (λ c. has_answered g c p) = enough_votes t.topology g p marks inside (enough p inside) in
      let meet : t.topology.centres < t.topology.write + t.topology.read = shape.meet in
      quorums_meet t.topology (λ c. stored c p version (before k h)) (λ c. has_answered g c p) (omega (arith, written, read, meet));
}

-- the settler's own centre holds each version below the replica watermark
meets_one : (t : Setting) (h : History) (k : ℕ) (g : Gathered) → g.round.settler < t.topology.centres → Lawful t (before k h) → FinalAll t.topology (before k h) g.round.below
    → ((p : ℕ) → p < t.topology.partitions → IsEnough t.topology g.round.settler (marks_of g p) One) → MeetsAnswers t h k g
meets_one t h k g known old final enough = record {
  closed = final.closed;
  both = λ version transaction p begun less inside touched.
      let all : all_below (λ c. stored c p version (before k h)) t.topology.centres ≡ true = final_all_begun t (before k h) g.round.below old final version transaction p begun less inside touched in
      (g.round.settler, known, all_below_at (λ c. stored c p version (before k h)) t.topology.centres all g.round.settler known, enough p inside);
}

-- the round of a harvest, with a number, as histories have rounds
abbrev numbered : ℕ → Gathered → Round
numbered n g = record { number = n; mode = g.round.mode; from = g.round.from; below = g.round.below }

-- the answers of a whole harvest meet what was held when its round was asked for
meets_whole : (t : Setting) (h : History) (k n : ℕ) (g : Gathered) → IsShape t.topology → Lawful t h → g.round.settler < t.topology.centres → at h k ≡ Some (asked_by g.round.settler (numbered n g))
    → IsMarked t.topology g.answered → ((p : ℕ) → p < t.topology.partitions → IsEnough t.topology g.round.settler (marks_of g p) g.round.mode) → MeetsAnswers t h k g
meets_whole t h k n g shape lawful known ask marks enough = by g.round.mode may.guard enough
  where
    may : May t (before k h) (asked_by g.round.settler (numbered n g))
    may = lawful_at t h k (asked_by g.round.settler (numbered n g)) lawful ask

    old : Lawful t (before k h)
    old = lawful_before t h k lawful

    by : (mode : Mode) → MayAsk t.topology (before k h) g.round.settler n mode g.round.from g.round.below
        → ((p : ℕ) → p < t.topology.partitions → IsEnough t.topology g.round.settler (marks_of g p) mode) → MeetsAnswers t h k g
    by Quorum asks each =
        meets_quorum t h k g shape old marks (subst (λ (w : ℕ). Final t.topology (before k h) w) (sym asks.below_is) (visible_final t (before k h) (Settler g.round.settler) old)) each
    by One asks each =
        meets_one t h k g known old (subst (λ (w : ℕ). FinalAll t.topology (before k h) w) (sym asks.below_is) (replicated_final t (before k h) (Settler g.round.settler) old)) each

-- ---- the two directions

-- where an item lies inside, its version does
inside_is : (from below : ℕ) (item : Item) → is_inside from below item ≡ true → (from ≤ item.version) × (item.version < below)
inside_is from below item is = (grind (arith, common_steps), grind (arith, common_steps))

-- where the version of an item lies inside, the item does
inside_by : (from below : ℕ) (item : Item) → from ≤ item.version → item.version < below → is_inside from below item ≡ true
inside_by from below item low high = grind (arith, common_steps)

-- the partition of a key is one of the topology
place_in : (t : Shape) (key : List ℕ) → IsShape t → place_of t key < t.partitions
place_in t key shape = mod-lt (byte_sum key) (let some : 1 ≤ t.partitions = shape.some_partition in omega (arith, some))

-- what a node that answered holds inside lies in the window
held_window : (t : Setting) (h : History) (told : ℕ → ℕ → Option (List Item)) (g : Gathered) (item : Item) → Lawful t h → AreNodesOf t h told → IsMarked t.topology g.answered
    → IsHeld told g item → InWindow h g.round.from g.round.below item
held_window t h told g item lawful nodes marks is =
    let place = answered_in t.topology g is.centre is.part marks is.answered in
    let both : ◌≡◌ {A = Option (List Item)} (Some is.held) (Some (held is.centre is.part h)) = sym is.held_is ∙ nodes is.centre is.part place.0 place.1 in
    let held_is : is.held ≡ held is.centre is.part h = cc in
    let found = filter_comes (is_inside g.round.from g.round.below) item is.held is.within in
    let begun = held_is_begun t h is.centre is.part item lawful (subst (λ (list : List Item). Among item list) held_is found.0) in
    let bounds = inside_is g.round.from g.round.below item found.1 in
    record { transaction = begun.transaction; begun = begun.begun; within = begun.within; low = bounds.0; high = bounds.1 }

-- an item of the window is held by a node that answered
window_held : (t : Setting) (h : History) (told : ℕ → ℕ → Option (List Item)) (k : ℕ) (g : Gathered) (item : Item) → IsShape t.topology → Lawful t h → AreNodesOf t h told → MeetsAnswers t h k g
    → InWindow h g.round.from g.round.below item → IsHeld told g item
window_held t h told k g item shape lawful nodes meet inside =
    let p = place_of t.topology item.key in
    let part : p < t.topology.partitions = place_in t.topology item.key shape in
    let begun : begun_at (before k h) item.version ≡ Some inside.transaction = sym (begun_earlier t h k g.round.below item.version lawful meet.closed inside.high) ∙ inside.begun in
    let found = meet.both item.version inside.transaction p begun inside.high part (items_touch t.topology item.version inside.transaction item inside.within) in
    let is : IsBegun (before k h) item = record { transaction = inside.transaction; begun = begun; within = inside.within } in
    let had = stored_is_held t (before k h) found.0 p item (lawful_before t h k lawful) found.2 is refl in
    record {
      centre = found.0;
      part = p;
      answered = found.3;
      held = held found.0 p h;
      held_is = nodes found.0 p found.1 part;
      within = filter_keeps (is_inside g.round.from g.round.below) item (held found.0 p h) (held_before found.0 p item h k had) (inside_by g.round.from g.round.below item inside.low inside.high);
    }

-- ---- the law

-- over the nodes of a lawful history a whole harvest of a round that was asked for is the window of that round
pub harvest_is_window : (t : Setting) (h : History) (told : ℕ → ℕ → Option (List Item)) (g : Gathered) → IsShape t.topology → Lawful t h → AreNodesOf t h told → IsAsked t h g.round → g.topology ≡ t.topology
    → IsMarked g.topology g.answered → IsWhole g → IsUnionOf told g → IsWindow h g.round.from g.round.below g.items
harvest_is_window t h told g shape lawful nodes asked same marks whole union_is item =
    let marked : IsMarked t.topology g.answered = subst (λ (s : Shape). IsMarked s g.answered) same marks in
    let enough : (p : ℕ) → p < t.topology.partitions → IsEnough t.topology g.round.settler (marks_of g p) g.round.mode =
    subst (λ (s : Shape). (p : ℕ) → p < s.partitions → IsEnough s g.round.settler (marks_of g p) g.round.mode) same whole in
    let there = entry_at h asked.entry asked.within in
    let ask : at h there.0 ≡ Some (asked_by g.round.settler (numbered asked.number g)) = there.1 ∙ ap (λ (e : Entry). Some e) asked.entry_is in
    let meet = meets_whole t h there.0 asked.number g shape lawful asked.settler_in ask marked enough in (
      λ among. held_window t h told g item lawful nodes marked ((union_is item).0 among),
      λ inside. (union_is item).1 (window_held t h told there.0 g item shape lawful nodes meet inside),
    )

-- an item of the window is one of a begun transaction
window_is_begun : (h : History) (from below : ℕ) (item : Item) → InWindow h from below item → IsBegun h item
window_is_begun h from below item inside = record { transaction = inside.transaction; begun = inside.begun; within = inside.within }

-- the union of a list that is a window is that window
pub union_is_window : (h : History) (from below : ℕ) (items : List Item) → IsWindow h from below items → IsWindow h from below (union items)
union_is_window h from below items window item = (λ among. (window item).0 (comes item among), back)
  where
    comes : (one : Item) → Among one (union items) → Among one items
    comes one among = by (all_added_comes one items [] among)
      where
        by : Among one items ⊎ Among one [] → Among one items
        by (inl here) = here
        by (inr none) = absurd none

    back : InWindow h from below item → Among item (union items)
    back inside =
        let has = all_added_has item items [] ((window item).1 inside) in
        let found = window_is_begun h from below has.found ((window has.found).0 (comes has.found has.within)) in
        subst (λ (x : Item). Among x (union items)) (one_item h has.found item found (window_is_begun h from below item inside) has.version_is has.key_is) has.within
