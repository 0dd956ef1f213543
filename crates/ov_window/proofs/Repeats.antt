-- Sorted references to items, without repeats, show the union: both are by version and then key, and of each version and key both
-- have the first.
use Rattle.std.proofs.Common.{◌≡◌, ℕ, suc, ◌+◌, Bool, true, false, not, ◌&&◌, cond, ◌⊎◌, inl, inr, Option, Some, None, List, [], ◌∷◌, filter, map, refl, sym, ap, subst, ◌∙◌, arith, IsSortedBy}
use Rattle.std.specs.Prelude.{if◌then◌else◌}
use Rattle.std.specs.Borrow.{Bor}
use Rattle.std.specs.Cmp.{IsStrictWeakOrder}
use Rattle.std.specs.Cmp.Lexicographic.{slice_cmp}
use Rattle.std.specs.List.{dedup, dedup_from}
use Rattle.std.specs.List.Sorted.{IsStableBy, ties as tied_in}
use Rattle.std.specs.Ordering.{is_lt, ordering_then, nat_cmp}
use Rattle.std.proofs.lemmas.Bool.{both_ways}
use Rattle.std.proofs.lemmas.Grind.{common_steps}
use Rattle.std.proofs.lemmas.List.Sorted.{ranks_by}
use Rattle.ov_base.specs.Lemmas.{key_eq-exact}
use Rattle.ov_functor.specs.declared.item.Item.{Item}
use Rattle.ov_functor.specs.Unions.{IsSorted, added, all_added, precedes, same_place, union}
use Rattle.ov_functor.specs.Windows.{Among}
use Rattle.ov_functor.proofs.Unions.{added_sorted, all_added_sorted, before_both, else_after, place_total, sorted_same}

-- ---- the order

-- the order of items is one by which a list can be sorted
pub items_rank : IsStrictWeakOrder precedes
items_rank = ranks_by place_total (λ (item : Item). item)

-- an item that stands before one before which a third does not stand is before that third
before_then_not : (a b c : Item) → precedes a b ≡ true → precedes c b ≡ false → precedes a c ≡ true
before_then_not a b c first second = by (precedes a c) refl
  where
    by : (before : Bool) → precedes a c ≡ before → precedes a c ≡ true
    by true is = is
    by false is = absurd (both_ways (precedes a b) (items_rank.chain a c b is second) first)

-- whether neither of two items stands before the other
abbrev tied : Item → Item → Bool
tied y z = tied_in precedes y z

-- how an item ties with one of this version and key
abbrev tied_by : Item → ℕ → List ℕ → Bool
tied_by y version key =
    not (is_lt (ordering_then (nat_cmp y.version version) (slice_cmp nat_cmp y.key key))) && not (is_lt (ordering_then (nat_cmp version y.version) (slice_cmp nat_cmp key y.key)))

-- items of one version and key tie with the same ones
tied_same : (y a b : Item) → same_place a b ≡ true → tied y a ≡ tied y b
tied_same y a b same =
    let version_is : a.version ≡ b.version = grind (arith, common_steps) in
    let key_is : a.key ≡ b.key = key_eq-exact a.key b.key (grind (arith, common_steps)) in
    (λ i. tied_by y (version_is i) (key_is i))

-- an item ties with itself
tied_itself : (y : Item) → tied y y ≡ true
tied_itself y = by (precedes y y) refl
  where
    by : (before : Bool) → precedes y y ≡ before → (not (precedes y y) && not (precedes y y)) ≡ true
    by true is = absurd (both_ways (precedes y y) (items_rank.one_way y y is) is)
    by false is = rw is refl

-- what stands before an item does not tie with it
before_not_tied : (x y : Item) → precedes x y ≡ true → tied y x ≡ false
before_not_tied x y before = rw before (by (not (precedes y x)))
  where
    by : (b : Bool) → (b && false) ≡ false
    by true = refl
    by false = refl

-- what stands behind an item that ties with another does not tie with that
behind_not_tied : (y new other : Item) → tied y new ≡ true → precedes new other ≡ true → tied y other ≡ false
behind_not_tied y new other ties before = by (tied y other) refl
  where
    by : (also : Bool) → tied y other ≡ also → tied y other ≡ false
    by false is = is
    by true is =
        let here : precedes new y ≡ false = grind (arith, common_steps) in
        let there : precedes y other ≡ false = grind (arith, common_steps) in
        absurd (both_ways (precedes new other) (items_rank.chain new y other here there) before)

-- ---- references

-- the items that are referred to
abbrev pub shown : List (Bor Item) → List Item
shown refs = map (λ one. one.now) refs

-- whether the item of one reference stands before that of another
abbrev pub shown_first : Bor Item → Bor Item → Bool
shown_first x y = precedes x.now y.now

-- whether the items of two references are of one version and key
abbrev pub shown_same : Bor Item → Bor Item → Bool
shown_same x y = same_place x.now y.now

-- the order of items is one by which references to them can be sorted
pub shown_rank : IsStrictWeakOrder shown_first
shown_rank = ranks_by place_total (λ (one : Bor Item). one.now)

-- the items that pass a test are those of the references whose items pass it
filter_shown : (p : Item → Bool) (refs : List (Bor Item)) → shown (filter (λ one. p one.now) refs) ≡ filter p (shown refs)
filter_shown p [] = refl
filter_shown p (first ∷ rest) = by (p first.now) (filter_shown p rest)
  where
    by : (b : Bool) → shown (filter (λ one. p one.now) rest) ≡ filter p (shown rest)
        → shown (cond b (first ∷ filter (λ one. p one.now) rest) (filter (λ one. p one.now) rest)) ≡ cond b (first.now ∷ filter p (shown rest)) (filter p (shown rest))
    by true is = ap (λ items. first.now ∷ items) is
    by false is = is

-- references without repeats are to the items without repeats
kept_shown : (last : Bor Item) (refs : List (Bor Item)) → shown (dedup_from shown_same last refs) ≡ dedup_from same_place last.now (shown refs)
kept_shown last [] = refl
kept_shown last (first ∷ rest) = by (shown_same first last) (kept_shown last rest) (kept_shown first rest)
  where
    by : (b : Bool) → shown (dedup_from shown_same last rest) ≡ dedup_from same_place last.now (shown rest) → shown (dedup_from shown_same first rest) ≡ dedup_from same_place first.now (shown rest)
        → shown (cond b (dedup_from shown_same last rest) (last ∷ dedup_from shown_same first rest)) ≡ cond b (dedup_from same_place last.now (shown rest)) (last.now ∷ dedup_from same_place first.now (shown rest))
    by true skipped held = skipped
    by false skipped held = ap (λ items. last.now ∷ items) held

dedup_shown : (refs : List (Bor Item)) → shown (dedup shown_same refs) ≡ dedup same_place (shown refs)
dedup_shown [] = refl
dedup_shown (first ∷ rest) = kept_shown first rest

-- references of which those to one version and key stay in their order show items of which those do
stable_shown : (refs sorted : List (Bor Item)) → IsStableBy shown_first refs sorted → IsStableBy precedes (shown refs) (shown sorted)
stable_shown refs sorted stable y =
    sym (filter_shown (tied y) sorted) ∙ ap shown (stable (record { ref_ptr = (0, 0); now = y })) ∙ filter_shown (tied y) refs

-- ---- the first of a version and key

abbrev first_of : List Item → Option Item
first_of [] = None
first_of (item ∷ items) = Some item

-- the first of these items that ties with one
abbrev found : Item → List Item → Option Item
found y items = first_of (filter (tied y) items)

abbrev or_else : Option Item → Option Item → Option Item
or_else None other = other
or_else (Some item) other = Some item

or_none : (this : Option Item) → this ≡ or_else this None
or_none None = refl
or_none (Some item) = refl

-- what was found is among the items
found_among : (y z : Item) (items : List Item) → found y items ≡ Some z → Among z items
found_among y z [] is = absurd (cc)
found_among y z (first ∷ rest) is = by (tied y first) is (found_among y z rest)
  where
    by : (b : Bool) → first_of (cond b (first ∷ filter (tied y) rest) (filter (tied y) rest)) ≡ Some z → (found y rest ≡ Some z → Among z rest) → Among z (first ∷ rest)
    by true is rest = inl (cc)
    by false is later = inr (later is)

-- in a sorted list each item is the first of its version and key
found_itself : (y : Item) (items : List Item) → IsSorted items → Among y items → found y items ≡ Some y
found_itself y [] sorted among = absurd among
found_itself y (first ∷ rest) sorted (inl is) = subst (λ (one : Item). found y (one ∷ rest) ≡ Some y) is (rw (tied_itself y) refl)
found_itself y (first ∷ rest) sorted (inr later) = rw (before_not_tied first y (sorted.0 y later)) (found_itself y rest sorted.1 later)

-- none of items that stand behind one that ties with another ties with that
found_none : (y new : Item) (items : List Item) → tied y new ≡ true → ((other : Item) → Among other items → precedes new other ≡ true) → found y items ≡ None
found_none y new [] ties behind = refl
found_none y new (first ∷ rest) ties behind = rw (behind_not_tied y new first ties (behind first (inl refl))) (found_none y new rest ties (λ other later. behind other (inr later)))

-- the same, where one is added
found_added : (y new : Item) (items : List Item) → IsSorted items → found y (added new items) ≡ or_else (found y items) (found y (new ∷ []))
found_added y new [] sorted = refl
found_added y new (first ∷ rest) sorted = by (same_place first new) (precedes first new) refl refl (found_added y new rest sorted.1)
  where
    there : (b : Bool) → tied y first ≡ b → same_place first new ≡ true → found y (first ∷ rest) ≡ or_else (found y (first ∷ rest)) (found y (new ∷ []))
    there true ties same = rw ties refl
    there false ties same = rw (sym (tied_same y first new same) ∙ ties) (or_none (found y (first ∷ rest)))

    after : (b : Bool) → tied y first ≡ b → found y (added new rest) ≡ or_else (found y rest) (found y (new ∷ [])) → found y (first ∷ added new rest) ≡ or_else (found y (first ∷ rest)) (found y (new ∷ []))
    after true ties old = rw ties refl
    after false ties old = rw ties old

    behind : precedes new first ≡ true → (other : Item) → Among other (first ∷ rest) → precedes new other ≡ true
    behind before other (inl is) = ap (precedes new) is ∙ before
    behind before other (inr later) = before_both new first other before (sorted.0 other later)

    before : (b : Bool) → tied y new ≡ b → precedes new first ≡ true → found y (new ∷ first ∷ rest) ≡ or_else (found y (first ∷ rest)) (found y (new ∷ []))
    before true ties is = rw (ties, found_none y new (first ∷ rest) ties (behind is)) refl
    before false ties is = rw ties (or_none (found y (first ∷ rest)))

    by : (a b : Bool) → same_place first new ≡ a → precedes first new ≡ b → found y (added new rest) ≡ or_else (found y rest) (found y (new ∷ []))
        → found y (if a then first ∷ rest else (if b then first ∷ added new rest else new ∷ first ∷ rest)) ≡ or_else (found y (first ∷ rest)) (found y (new ∷ []))
    by true b same is old = there (tied y first) refl same
    by false true same is old = after (tied y first) refl old
    by false false same is old = before (tied y new) refl (else_after first new same is)

-- the same, where items are added one after another
found_all_added : (y : Item) (new items : List Item) → IsSorted items → found y (all_added new items) ≡ or_else (found y items) (found y new)
found_all_added y [] items sorted = or_none (found y items)
found_all_added y (one ∷ others) items sorted =
    found_all_added y others (added one items) (added_sorted one items sorted)
    ∙ ap (λ this. or_else this (found y others)) (found_added y one items sorted)
    ∙ by (found y items) (tied y one)
  where
    by : (this : Option Item) (b : Bool) → or_else (or_else this (first_of (cond b (one ∷ []) []))) (found y others) ≡ or_else this (first_of (cond b (one ∷ filter (tied y) others) (filter (tied y) others)))
    by None true = refl
    by None false = refl
    by (Some item) b = refl

-- ---- items without repeats

-- what is kept is among all
kept_comes : (last : Item) (items : List Item) (other : Item) → Among other (dedup_from same_place last items) → Among other (last ∷ items)
kept_comes last [] other among = among
kept_comes last (item ∷ items) other among = by (same_place item last) among (kept_comes last items other) (kept_comes item items other)
  where
    skipped : Among other (last ∷ items) → Among other (last ∷ item ∷ items)
    skipped (inl is) = inl is
    skipped (inr later) = inr (inr later)

    held : (other ≡ last) ⊎ Among other (dedup_from same_place item items) → (Among other (dedup_from same_place item items) → Among other (item ∷ items)) → Among other (last ∷ item ∷ items)
    held (inl is) rest = inl is
    held (inr later) rest = inr (rest later)

    by : (b : Bool) → Among other (if b then dedup_from same_place last items else last ∷ dedup_from same_place item items) → (Among other (dedup_from same_place last items) → Among other (last ∷ items))
        → (Among other (dedup_from same_place item items) → Among other (item ∷ items)) → Among other (last ∷ item ∷ items)
    by true among same rest = skipped (same among)
    by false among same rest = held among rest

-- the first of a version and key is kept
kept_found : (y last : Item) (items : List Item) → found y (dedup_from same_place last items) ≡ found y (last ∷ items)
kept_found y last [] = refl
kept_found y last (item ∷ items) = by (same_place item last) refl (kept_found y last items) (kept_found y item items)
  where
    skipped : (b : Bool) → tied y last ≡ b → same_place item last ≡ true → found y (last ∷ items) ≡ found y (last ∷ item ∷ items)
    skipped true ties same = rw ties refl
    skipped false ties same = rw (ties, tied_same y item last same ∙ ties) refl

    held : (b : Bool) → found y (dedup_from same_place item items) ≡ found y (item ∷ items)
        → first_of (cond b (last ∷ filter (tied y) (dedup_from same_place item items)) (filter (tied y) (dedup_from same_place item items))) ≡ first_of (cond b (last ∷ filter (tied y) (item ∷ items)) (filter (tied y) (item ∷ items)))
    held true rest = refl
    held false rest = rest

    by : (b : Bool) → same_place item last ≡ b → found y (dedup_from same_place last items) ≡ found y (last ∷ items) → found y (dedup_from same_place item items) ≡ found y (item ∷ items)
        → found y (if b then dedup_from same_place last items else last ∷ dedup_from same_place item items) ≡ found y (last ∷ item ∷ items)
    by true same here rest = here ∙ skipped (tied y last) refl same
    by false same here rest = held (tied y last) rest

-- none of a list stands before an earlier one
abbrev Stays : List Item → Type 0
Stays [] = Unit {0}
Stays (item ∷ items) = ((other : Item) → Among other items → precedes other item ≡ false) × Stays items

stays_from : (items : List (Bor Item)) → IsSortedBy shown_first items → Stays (shown items)
stays_from [] sorted = tt
stays_from (item ∷ []) sorted = ((λ other none. absurd none), tt)
stays_from (item ∷ next ∷ others) sorted =
    let rest = stays_from (next ∷ others) (λ k d low high. let is : suc k + 1 ≡ suc (k + 1) = omega arith in rw is at (sorted (suc k) d (omega arith) (omega arith))) in
    (by rest (sorted 0 item (omega arith) (omega arith)), rest)
  where
    by : Stays (shown (next ∷ others)) → precedes next.now item.now ≡ false → (other : Item) → Among other (shown (next ∷ others)) → precedes other item.now ≡ false
    by rest here other (inl is) = ap (λ (one : Item). precedes one item.now) is ∙ here
    by rest here other (inr later) = items_rank.chain other next.now item.now (rest.0 other later) here

-- what is kept of sorted items is sorted, each version and key once
kept_sorted : (last : Item) (items : List Item) → Stays (last ∷ items) → IsSorted (dedup_from same_place last items)
kept_sorted last [] stays = ((λ other none. absurd none), tt)
kept_sorted last (item ∷ items) stays = by (same_place item last) refl (kept_sorted last items ((λ other later. stays.0 other (inr later)), stays.1.1)) (kept_sorted item items stays.1)
  where
    behind : precedes last item ≡ true → (other : Item) → Among other (item ∷ items) → precedes last other ≡ true
    behind before other (inl is) = ap (precedes last) is ∙ before
    behind before other (inr later) = before_then_not last item other before (stays.1.0 other later)

    by : (b : Bool) → same_place item last ≡ b → IsSorted (dedup_from same_place last items) → IsSorted (dedup_from same_place item items) → IsSorted (if b then dedup_from same_place last items else last ∷ dedup_from same_place item items)
    by true same here rest = here
    by false same here rest =
        let before : precedes last item ≡ true = else_after item last same (stays.0 item (inl refl)) in
        ((λ other among. behind before other (kept_comes item items other among)), rest)

all_kept_sorted : (items : List Item) → Stays items → IsSorted (dedup same_place items)
all_kept_sorted [] stays = tt
all_kept_sorted (item ∷ items) stays = kept_sorted item items stays

all_kept_found : (y : Item) (items : List Item) → found y (dedup same_place items) ≡ found y items
all_kept_found y [] = refl
all_kept_found y (item ∷ items) = kept_found y item items

-- sorted references, of which those to one version and key stay in their order, without repeats: they show the union
pub dedup_union : (refs sorted : List (Bor Item)) → IsSortedBy shown_first sorted → IsStableBy shown_first refs sorted → shown (dedup shown_same sorted) ≡ union (shown refs)
dedup_union refs sorted up stable =
    dedup_shown sorted
    ∙ sorted_same (dedup same_place (shown sorted)) (union (shown refs)) here there
    (λ y among. found_among y y (union (shown refs)) (sym (same y) ∙ found_itself y (dedup same_place (shown sorted)) here among))
    (λ y among. found_among y y (dedup same_place (shown sorted)) (same y ∙ found_itself y (union (shown refs)) there among))
  where
    here : IsSorted (dedup same_place (shown sorted))
    here = all_kept_sorted (shown sorted) (stays_from sorted up)

    there : IsSorted (union (shown refs))
    there = all_added_sorted (shown refs) [] tt

    same : (y : Item) → found y (dedup same_place (shown sorted)) ≡ found y (union (shown refs))
    same y = all_kept_found y (shown sorted) ∙ ap first_of (stable_shown refs sorted stable y) ∙ sym (found_all_added y (shown refs) [] tt)
