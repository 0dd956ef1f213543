-- What version lists keep, as the items of a node: one more is added at its place, and a window gives those inside.
use Rattle.std.proofs.Common.{◌≡◌, ℕ, ◌+◌, ◌≤◌, arith, Bool, true, false, ◌&&◌, ◌==◌, List, [], ◌∷◌, map, filter, refl, sym, ap, ◌∙◌, inl, inr, nat_cmp, is_gt}
use Rattle.std.specs.Prelude.{if◌then◌else◌, IfOk, IsOk}
use Rattle.std.specs.declared.result.Result.{Result}
use Rattle.std.specs.declared.result.Result.TheVariants.{Ok, Err}
use Rattle.std.specs.List.{AllByRecursion}
use Rattle.std.specs.Cmp.Lexicographic.{slice_cmp}
use Rattle.std.specs.Ordering.{ordering_then, ordering_reverse, is_lt}
use Rattle.std.specs.declared.cmp.Ordering.{Ordering}
use Rattle.std.specs.declared.cmp.Ordering.TheVariants.{Less, Equal, Greater}
use Rattle.std.proofs.lemmas.Bool.{cases_Bool, both_ways, false_from_ne_true, or_parts}
use Rattle.std.proofs.lemmas.Cmp.{upto}
use Rattle.ov_base.specs.Key.{key_eq}
use Rattle.ov_functor.specs.Placeholder.{Placeholder}
use Rattle.ov_functor.specs.Unions.{same_place, added, is_inside}
use Rattle.ov_lists.specs.Entries as lists
use Rattle.ov_lists.specs.Entries.{Entry, stands_before, is_earlier, is_at, has_pair, IsOrdered, Inserts, put, by_version, inserted, window_of}
use Rattle.ov_base.proofs.Lists.{all_weaker, all_filter}
use Rattle.ov_lists.proofs.Orders.{all_put, Rises, rises_from, Holds, all_holds}
use Rattle.ov_lists.proofs.Entries.{at_pair, entry_trans}
use Rattle.ov_lists.proofs.Sorting.{earlier_total, earlier_trans, earlier_itself, earlier_apart, all_by_version, holds_by_version, rises_by_version}
use Rattle.ov_node.specs.Node.{item_of, items_in}

-- ---- the order by version and then key

-- what stands before does not stand behind
one_way : {T : Type 0} (e f : Entry T) → is_earlier e f ≡ true → is_earlier f e ≡ false
one_way e f h = false_from_ne_true (is_earlier f e) (λ back. both_ways (is_earlier e e) (earlier_itself e) (earlier_trans e f e h back))

-- how two entries compare by version and then key
abbrev compared : {T : Type 0} → Entry T → Entry T → Ordering
compared e f = ordering_then (nat_cmp e.version f.version) (slice_cmp nat_cmp e.key f.key)

turned : (o : Ordering) → is_lt (ordering_reverse o) ≡ is_gt o
turned Less = refl
turned Equal = refl
turned Greater = refl

-- one stands before another where that is the greater the other way round
before_is : {T : Type 0} (e f : Entry T) → is_earlier f e ≡ is_gt (compared e f)
before_is e f = ap is_lt (earlier_total.antisymm f e) ∙ turned (compared e f)

-- what does not stand before one that does not stand before a third does not stand before that
not_before_trans : {T : Type 0} (e f g : Entry T) → is_earlier f e ≡ false → is_earlier g f ≡ false → is_earlier g e ≡ false
not_before_trans e f g a b = before_is e g ∙ upto earlier_total e f g (sym (before_is e f) ∙ a) (sym (before_is f g) ∙ b)

-- ---- two that are put in their places

module _ {A : Type 0} (before : A → A → Bool) (trans : (x y z : A) → before x y ≡ true → before y z ≡ true → before x z ≡ true) where
  put_up : (a b : A) → before a b ≡ true → before b a ≡ false → (xs : List A) → put before a (put before b xs) ≡ put before b (put before a xs)
  put_up a b up down [] = rw (up, down) refl
  put_up a b up down (x ∷ xs) =
      elim (cases_Bool (before x a)) [
        | inl less ↦ rw (less, trans x a b less up, less) (ap (λ (t : List A). x ∷ t) (put_up a b up down xs))
        | inr past ↦ elim (cases_Bool (before x b)) [
          | inl under ↦ rw (under, past, up, under) refl
          | inr over ↦ rw (over, past, down, up, over) refl
        ]
      ]

-- two entries of different pairs may be put in their places in either order
put_swap : {T : Type 0} (e f : Entry T) → is_at f.key f.version e ≡ false → (es : List (Entry T)) → put is_earlier e (put is_earlier f es) ≡ put is_earlier f (put is_earlier e es)
put_swap e f apart es =
    elim (earlier_apart e f apart) [
      | inl up ↦ put_up is_earlier earlier_trans e f up (one_way e f up) es
      | inr down ↦ sym (put_up is_earlier earlier_trans f e down (one_way f e down) es)
    ]

-- an entry of a new pair comes to its place by version too
put_by_version : {T : Type 0} (new : Entry T) (es : List (Entry T)) → has_pair new.key new.version es ≡ false → by_version (inserted new es) ≡ put is_earlier new (by_version es)
put_by_version new [] lacks = refl
put_by_version new (e ∷ es) lacks =
    let parts = or_parts (is_at new.key new.version e) (has_pair new.key new.version es) lacks in
    elim (cases_Bool (stands_before e new)) [
      | inl less ↦ rw (less, put_by_version new es parts.1) (put_swap e new parts.0 (by_version es))
      | inr past ↦ rw past refl
    ]

-- ---- items

and_swap : (a b : Bool) → (a && b) ≡ (b && a)
and_swap true true = refl
and_swap true false = refl
and_swap false true = refl
and_swap false false = refl

-- an item is of the place of another where its entry is of that pair
same_is : (e new : Entry Placeholder) → same_place (item_of e) (item_of new) ≡ is_at new.key new.version e
same_is e new = and_swap (e.version == new.version) (key_eq e.key new.key)

-- where no entry is of the pair, its item is added where the entry is put
put_added : (new : Entry Placeholder) (es : List (Entry Placeholder)) → AllByRecursion (λ e. is_at new.key new.version e ≡ false) es → map item_of (put is_earlier new es) ≡ added (item_of new) (map item_of es)
put_added new [] apart = refl
put_added new (e ∷ es) apart =
    let other : same_place (item_of e) (item_of new) ≡ false = same_is e new ∙ apart.0 in
    elim (cases_Bool (is_earlier e new)) [
      | inl less ↦ rw (less, other, put_added new es apart.1) refl
      | inr past ↦ rw (past, other) refl
    ]

lacks_each : {T : Type 0} (key : List ℕ) (version : ℕ) (es : List (Entry T)) → has_pair key version es ≡ false → AllByRecursion (λ e. is_at key version e ≡ false) es
lacks_each key version [] lacks = tt
lacks_each key version (e ∷ es) lacks = let parts = or_parts (is_at key version e) (has_pair key version es) lacks in (parts.0, lacks_each key version es parts.1)

-- an entry of a new pair, as items
items_more : (new : Entry Placeholder) (es : List (Entry Placeholder)) → has_pair new.key new.version es ≡ false → items_in (inserted new es) ≡ added (item_of new) (items_in es)
items_more new es lacks =
    ap (map item_of) (put_by_version new es lacks)
    ∙ put_added new (by_version es) (all_by_version (λ e. is_at new.key new.version e ≡ false) es (lacks_each new.key new.version es lacks))

-- where an entry is of the pair, its item is there
added_there : (new there : Entry Placeholder) → is_at new.key new.version there ≡ true → (es : List (Entry Placeholder)) → Rises is_earlier es → Holds es there
    → added (item_of new) (map item_of es) ≡ map item_of es
added_there new there at [] rises holds = absurd holds
added_there new there at (e ∷ es) rises holds =
    elim (cases_Bool (is_at new.key new.version e)) [
      | inl here ↦ rw (same_is e new ∙ here) refl
      | inr other ↦
          let later : Holds es there = elim holds [ inl same ↦ absurd (both_ways (is_at new.key new.version e) other (rw (sym same) at)) | inr more ↦ more ] in
          let q = at_pair new.key new.version there at in
          let less : is_earlier e there ≡ true = all_holds (λ f. is_earlier e f ≡ true) es there rises.0 later in
          let before : is_earlier e new ≡ true = rw (sym q.0, sym q.1) less in
          rw (same_is e new ∙ other, before, added_there new there at es rises.1 later) refl
    ]

pair_holds : {T : Type 0} (key : List ℕ) (version : ℕ) (es : List (Entry T)) → has_pair key version es ≡ true → (e : Entry T) × (Holds es e × (is_at key version e ≡ true))
pair_holds key version [] has = absurd cc
pair_holds key version (e ∷ es) has =
    elim (cases_Bool (is_at key version e)) [
      | inl here ↦ (e, (inl refl, here))
      | inr other ↦ let rest = pair_holds key version es (rw other at has) in (rest.0, (inr rest.1.0, rest.1.1))
    ]

-- an entry of a pair that is there, as items
items_same : (new : Entry Placeholder) (es : List (Entry Placeholder)) → IsOrdered es → has_pair new.key new.version es ≡ true → items_in es ≡ added (item_of new) (items_in es)
items_same new es ordered has =
    let there = pair_holds new.key new.version es has in
    let rises = rises_by_version es (rises_from stands_before entry_trans es ordered) in
    sym (added_there new there.0 there.1.1 (by_version es) rises (all_holds (Holds (by_version es)) es there.0 (holds_by_version es) there.1.0))

-- what an insertion leaves holds the item too, and at most one of the reserved places is taken
pub insertion : (new : Entry Placeholder) (old more : lists.Contents Placeholder) (is_new : Bool) → IsOrdered more.entries → Inserts old more new is_new
    → (items_in more.entries ≡ added (item_of new) (items_in old.entries)) × (old.spare ≤ more.spare + 1)
insertion new old more true ordered h = (ap items_in h.1.0 ∙ items_more new old.entries h.0, h.1.1)
insertion new old more false ordered h = (rw (h.1) (items_same new old.entries (rw (sym h.1) ordered) h.0), rw (h.1) (omega arith))

-- the same, of an insertion for which there was room
pub insertion_of : {E : Type 0} (result : Result Bool E) (new : Entry Placeholder) (old more : lists.Contents Placeholder) → IsOk result → IsOrdered more.entries → IfOk result (λ is_new. Inserts old more new is_new)
    → (items_in more.entries ≡ added (item_of new) (items_in old.entries)) × (old.spare ≤ more.spare + 1)
insertion_of (Ok is_new) new old more succeeds ordered h = insertion new old more is_new ordered h
insertion_of (Err error) new old more succeeds ordered h = absurd cc

-- ---- a window

-- Of each of a list none of those that follow stands before it.
abbrev Keeps : {T : Type 0} → List (Entry T) → Type 0
Keeps [] = Unit {0}
Keeps (e ∷ es) = AllByRecursion (λ f. is_earlier f e ≡ false) es × Keeps es

keeps_put : {T : Type 0} (new : Entry T) (es : List (Entry T)) → Keeps es → Keeps (put is_earlier new es)
keeps_put new [] keeps = (tt, tt)
keeps_put new (e ∷ es) keeps =
    elim (cases_Bool (is_earlier e new)) [
      | inl less ↦ rw less (all_put is_earlier (λ f. is_earlier f e ≡ false) new (one_way e new less) es keeps.0, keeps_put new es keeps.1)
      | inr past ↦ rw past ((past, all_weaker (λ f. is_earlier f e ≡ false) (λ f. is_earlier f new ≡ false) (λ f behind. not_before_trans new e f past behind) es keeps.0), keeps)
    ]

keeps_by_version : {T : Type 0} (es : List (Entry T)) → Keeps (by_version es)
keeps_by_version [] = tt
keeps_by_version (e ∷ es) = keeps_put e (by_version es) (keeps_by_version es)

put_front : {T : Type 0} (new : Entry T) (es : List (Entry T)) → AllByRecursion (λ f. is_earlier f new ≡ false) es → put is_earlier new es ≡ new ∷ es
put_front new [] behind = refl
put_front new (e ∷ es) behind = rw behind.0 refl

-- those that pass, with one more at its place where it passes
filter_put : {T : Type 0} (p : Entry T → Bool) (new : Entry T) (es : List (Entry T)) → Keeps es → filter p (put is_earlier new es) ≡ (if p new then put is_earlier new (filter p es) else filter p es)
filter_put p new [] keeps = refl
filter_put {T} p new (e ∷ es) keeps =
    elim (cases_Bool (is_earlier e new)) [
      | inl less ↦ elim (cases_Bool (p e)) [
        | inl kept ↦ rw (less, kept, filter_put p new es keeps.1) (by_kept (p new) less)
        | inr out ↦ rw (less, out, filter_put p new es keeps.1) refl
      ]
      | inr past ↦
          let behind = all_filter p (λ f. is_earlier f new ≡ false) (e ∷ es) (past, all_weaker (λ f. is_earlier f e ≡ false) (λ f. is_earlier f new ≡ false) (λ f later. not_before_trans new e f past later) es keeps.0) in
          rw past (ap (λ (t : List (Entry T)). if p new then t else filter p (e ∷ es)) (sym (put_front new (filter p (e ∷ es)) behind)))
    ]
  where
    by_kept : (b : Bool) → is_earlier e new ≡ true → e ∷ (if b then put is_earlier new (filter p es) else filter p es) ≡ (if b then put is_earlier new (e ∷ filter p es) else e ∷ filter p es)
    by_kept true less = rw less refl
    by_kept false less = refl

-- those that pass by version, and then those that pass of all by version
by_version_filter : {T : Type 0} (p : Entry T → Bool) (es : List (Entry T)) → by_version (filter p es) ≡ filter p (by_version es)
by_version_filter p [] = refl
by_version_filter {T} p (e ∷ es) =
    elim (cases_Bool (p e)) [
      | inl kept ↦ rw (kept, filter_put p e (by_version es) (keeps_by_version es), kept, by_version_filter p es) refl
      | inr out ↦ rw (out, filter_put p e (by_version es) (keeps_by_version es), out) (by_version_filter p es)
    ]

map_inside : (from below : ℕ) (es : List (Entry Placeholder)) → map item_of (filter (lists.is_inside from below) es) ≡ filter (is_inside from below) (map item_of es)
map_inside from below [] = refl
map_inside from below (e ∷ es) =
    elim (cases_Bool (lists.is_inside from below e)) [
      | inl kept ↦ rw (kept, map_inside from below es) refl
      | inr out ↦ rw (out) (map_inside from below es)
    ]

-- a window of version lists, as items
pub items_inside : (from below : ℕ) (es : List (Entry Placeholder)) → map item_of (window_of from below es) ≡ filter (is_inside from below) (items_in es)
items_inside from below es = ap (map item_of) (by_version_filter (lists.is_inside from below) es) ∙ map_inside from below (by_version es)
