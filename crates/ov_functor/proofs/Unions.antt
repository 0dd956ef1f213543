-- Lists of items by version and then key: unions are such lists, what is among them, and that such a list is determined by it.
use Rattle.std.proofs.Common.{◌≡◌, ◌==◌, ℕ, zero, suc, ◌≤◌, ◌<◌, Bool, true, false, cond, Ordering, Less, Equal, Greater, ◌⊎◌, inl, inr, Some, List, [], ◌∷◌, ◌++◌, refl, sym, ap, subst, ◌∙◌, arith}
use Rattle.std.specs.Prelude.{if◌then◌else◌, nat_lt, slice_get}
use Rattle.std.specs.Cmp.{IsTotalOrder}
use Rattle.std.specs.Cmp.Lexicographic.{slice_cmp}
use Rattle.std.specs.Ordering.{is_lt, ordering_then, ordering_reverse, nat_cmp}
use Rattle.std.proofs.lemmas.Bool.{both_ways}
use Rattle.std.proofs.lemmas.Cmp.{nat_cmp_total, nat_list_cmp_total, on_total, then_total, tied_itself}
use Rattle.std.proofs.lemmas.Grind.{common_steps}
use Rattle.std.proofs.lemmas.Map.Lookups.{exact_unsigned, exact_bytes, exact_pairs}
use Rattle.ov_base.specs.Key.{key_eq}
use Rattle.ov_base.specs.Lemmas.{key_eq-exact}
use Rattle.ov_functor.specs.declared.item.Item.{Item}
use Rattle.ov_functor.specs.Unions.{same_place, precedes, added, all_added, IsSorted, backwards}
use Rattle.ov_functor.specs.Windows.{Among, Descends, HasItem}
use Rattle.ov_base.proofs.Keys.{key_eq-self}
use Rattle.ov_base.proofs.Orders.{less_from}
use Rattle.ov_functor.proofs.Among.{among_front, among_back, among_either}

-- ---- lists backwards

-- what is among a list backwards is among it
pub backwards_comes : {X : Type 0} (x : X) (xs : List X) → Among x (backwards xs) → Among x xs
backwards_comes x [] among = among
backwards_comes x (first ∷ rest) among = by (among_either x (backwards rest) (first ∷ []) among) (backwards_comes x rest)
  where
    by : Among x (backwards rest) ⊎ Among x (first ∷ []) → (Among x (backwards rest) → Among x rest) → Among x (first ∷ rest)
    by (inl later) old = inr (old later)
    by (inr (inl here)) old = inl here
    by (inr (inr none)) old = absurd none

-- what is among a list is among it backwards
pub backwards_has : {X : Type 0} (x : X) (xs : List X) → Among x xs → Among x (backwards xs)
backwards_has x [] among = among
backwards_has x (first ∷ rest) (inl here) = among_back x (backwards rest) (first ∷ []) (inl here)
backwards_has x (first ∷ rest) (inr later) = among_front x (backwards rest) (first ∷ []) (backwards_has x rest later)

-- ---- what is among items with others added

-- an item stays where one is added
pub among_added : (item new : Item) (items : List Item) → Among item items → Among item (added new items)
among_added item new [] among = absurd among
among_added item new (first ∷ rest) among = by (same_place first new) (precedes first new) among (among_added item new rest)
  where
    by : (a b : Bool) → (item ≡ first) ⊎ Among item rest → (Among item rest → Among item (added new rest)) → Among item (if a then first ∷ rest else (if b then first ∷ added new rest else new ∷ first ∷ rest))
    by true b old later = old
    by false true (inl is) later = inl is
    by false true (inr old) later = inr (later old)
    by false false old later = inr old

-- an item stays where others are added
pub among_all_added : (item : Item) (new items : List Item) → Among item items → Among item (all_added new items)
among_all_added item [] items among = among
among_all_added item (one ∷ others) items among = among_all_added item others (added one items) (among_added item one items among)

-- what is among items with one added is that one or was among them
pub added_comes : (new item : Item) (items : List Item) → Among item (added new items) → (item ≡ new) ⊎ Among item items
added_comes new item [] among = among
added_comes new item (first ∷ rest) among = by (same_place first new) (precedes first new) among (added_comes new item rest)
  where
    of : (item ≡ new) ⊎ Among item rest → (item ≡ new) ⊎ Among item (first ∷ rest)
    of (inl is) = inl is
    of (inr old) = inr (inr old)

    by : (a b : Bool) → Among item (if a then first ∷ rest else (if b then first ∷ added new rest else new ∷ first ∷ rest))
        → (Among item (added new rest) → (item ≡ new) ⊎ Among item rest) → (item ≡ new) ⊎ Among item (first ∷ rest)
    by true b among later = inr among
    by false true (inl is) later = inr (inl is)
    by false true (inr old) later = of (later old)
    by false false (inl is) later = inl is
    by false false (inr old) later = inr old

-- what is among items with others added is one of the others or was among them
pub all_added_comes : (item : Item) (new items : List Item) → Among item (all_added new items) → Among item new ⊎ Among item items
all_added_comes item [] items among = inr among
all_added_comes item (one ∷ others) items among = by (all_added_comes item others (added one items) among)
  where
    of : (item ≡ one) ⊎ Among item items → Among item (one ∷ others) ⊎ Among item items
    of (inl is) = inl (inl is)
    of (inr old) = inr old

    by : Among item others ⊎ Among item (added one items) → Among item (one ∷ others) ⊎ Among item items
    by (inl later) = inl (inr later)
    by (inr here) = of (added_comes one item items here)

-- two items of one place have one version and one key
same_place_is : (a b : Item) → same_place a b ≡ true → (a.version ≡ b.version) × (a.key ≡ b.key)
same_place_is a b same = (grind (arith, common_steps), key_eq-exact a.key b.key (grind (arith, common_steps)))

-- where an item is added, one of its version and key is there
pub added_has : (new : Item) (items : List Item) → HasItem (added new items) new.version new.key
added_has new [] = record { found = new; within = inl refl; version_is = refl; key_is = refl }
added_has new (first ∷ rest) = by (same_place first new) (precedes first new) refl (added_has new rest)
  where
    by : (a b : Bool) → same_place first new ≡ a → HasItem (added new rest) new.version new.key
        → HasItem (if a then first ∷ rest else (if b then first ∷ added new rest else new ∷ first ∷ rest)) new.version new.key
    by true b is later = let same = same_place_is first new is in record { found = first; within = inl refl; version_is = same.0; key_is = same.1 }
    by false true is later = record { found = later.found; within = inr later.within; version_is = later.version_is; key_is = later.key_is }
    by false false is later = record { found = new; within = inl refl; version_is = refl; key_is = refl }

-- an item of a version and key stays where others are added
pub has_keeps : (new items : List Item) (version : ℕ) (key : List ℕ) → HasItem items version key → HasItem (all_added new items) version key
has_keeps new items version key has = record { found = has.found; within = among_all_added has.found new items has.within; version_is = has.version_is; key_is = has.key_is }

-- where items are added, each has one of its version and key there
pub all_added_has : (item : Item) (new items : List Item) → Among item new → HasItem (all_added new items) item.version item.key
all_added_has item [] items among = absurd among
all_added_has item (one ∷ others) items (inl is) =
    subst (λ (x : Item). HasItem (all_added others (added one items)) x.version x.key) (sym is) (has_keeps others (added one items) one.version one.key (added_has one items))
all_added_has item (one ∷ others) items (inr later) = all_added_has item others (added one items) later

-- ---- the order of items

-- by version, and of one version by key
abbrev pub place_cmp : Item → Item → Ordering
place_cmp a b = ordering_then (nat_cmp a.version b.version) (slice_cmp nat_cmp a.key b.key)

-- that order is total
pub place_total : IsTotalOrder place_cmp
place_total = then_total (on_total (λ (x : Item). x.version) nat_cmp_total) (on_total (λ (x : Item). x.key) nat_list_cmp_total)

-- an item that stands before one that stands before a third stands before that
pub before_both : (a b c : Item) → precedes a b ≡ true → precedes b c ≡ true → precedes a c ≡ true
before_both a b c first second = ap is_lt (place_total.trans a b c (less_from (place_cmp a b) first) (less_from (place_cmp b c) second))

-- of two items of one version and key neither stands before the other
pub before_differs : (a b : Item) → precedes a b ≡ true → a.version ≡ b.version → a.key ≡ b.key → ⊥
before_differs a b before version_is key_is =
    let same : precedes a b ≡ precedes b b = λ i. is_lt (ordering_then (nat_cmp (version_is i) b.version) (slice_cmp nat_cmp (key_is i) b.key)) in
    both_ways (precedes b b) (ap is_lt (tied_itself place_total b)) (sym same ∙ before)

-- items that compare alike are of one version and key
pub equal_same : (a b : Item) → place_cmp a b ≡ Equal → same_place a b ≡ true
equal_same a b equal =
    let same = exact_pairs nat_cmp (slice_cmp nat_cmp) exact_unsigned exact_bytes (a.version, a.key) (b.version, b.key) equal in
    let version_is : a.version ≡ b.version = ap (λ (p : ℕ × List ℕ). p.0) same in
    let key_is : key_eq a.key b.key ≡ true = ap (λ (p : ℕ × List ℕ). key_eq p.1 b.key) same ∙ key_eq-self b.key in
    grind (arith, common_steps)

-- of two items of different versions or keys that do not stand in this order the second stands before the first
pub else_after : (a b : Item) → same_place a b ≡ false → precedes a b ≡ false → precedes b a ≡ true
else_after a b differ not = by (place_cmp a b) refl not
  where
    by : (o : Ordering) → place_cmp a b ≡ o → is_lt o ≡ false → precedes b a ≡ true
    by Less is not = absurd (cc)
    by Equal is not = absurd (both_ways (same_place a b) differ (equal_same a b is))
    by Greater is not = ap is_lt (place_total.antisymm b a ∙ ap ordering_reverse is)

-- an item that stands before another has no greater version
pub before_is_under : (a b : Item) → precedes a b ≡ true → a.version ≤ b.version
before_is_under a b is = by (nat_lt a.version b.version) (a.version == b.version) refl refl is
  where
    by : (less same : Bool) → nat_lt a.version b.version ≡ less → (a.version == b.version) ≡ same
        → is_lt (ordering_then (cond less Less (cond same Equal Greater)) (slice_cmp nat_cmp a.key b.key)) ≡ true → a.version ≤ b.version
    by true same less_is same_is is = grind (arith, common_steps)
    by false true less_is same_is is = grind (arith, common_steps)
    by false false less_is same_is is = absurd (cc)

-- ---- unions are sorted

-- what holds of an item and of all items of a list holds of all where it is added
pub added_all : (P : Item → Type 0) (new : Item) (items : List Item) → P new → ((item : Item) → Among item items → P item) → (item : Item) → Among item (added new items) → P item
added_all P new items here all item among = by (added_comes new item items among)
  where
    by : (item ≡ new) ⊎ Among item items → P item
    by (inl is) = subst P (sym is) here
    by (inr old) = all item old

-- an item that stands before the first of a sorted list stands before all of it
before_all : (new first : Item) (rest : List Item) → precedes new first ≡ true → IsSorted (first ∷ rest) → (other : Item) → Among other (first ∷ rest) → precedes new other ≡ true
before_all new first rest before sorted other (inl is) = ap (precedes new) is ∙ before
before_all new first rest before sorted other (inr later) = before_both new first other before (sorted.0 other later)

-- where an item is added, a sorted list stays sorted
pub added_sorted : (new : Item) (items : List Item) → IsSorted items → IsSorted (added new items)
added_sorted new [] sorted = ((λ other none. absurd none), sorted)
added_sorted new (first ∷ rest) sorted = by (same_place first new) (precedes first new) refl refl (added_sorted new rest sorted.1)
  where
    by : (a b : Bool) → same_place first new ≡ a → precedes first new ≡ b → IsSorted (added new rest)
        → IsSorted (if a then first ∷ rest else (if b then first ∷ added new rest else new ∷ first ∷ rest))
    by true b same is later = sorted
    by false true same is later = (added_all (λ (other : Item). precedes first other ≡ true) new rest is sorted.0, later)
    by false false same is later = (before_all new first rest (else_after first new same is) sorted, sorted)

-- where items are added one after another, a sorted list stays sorted
pub all_added_sorted : (new items : List Item) → IsSorted items → IsSorted (all_added new items)
all_added_sorted [] items sorted = sorted
all_added_sorted (one ∷ others) items sorted = all_added_sorted others (added one items) (added_sorted one items sorted)

-- ---- the versions of a sorted list

-- versions that do not rise still do not with a least one behind them
descends_with : (below : ℕ) (items : List Item) (last : Item) → Descends below items → ((item : Item) → Among item items → last.version ≤ item.version) → last.version < below
    → Descends below (items ++ last ∷ [])
descends_with below [] last falls over less = (less, record {})
descends_with below (first ∷ rest) last falls over less =
    let low : last.version ≤ first.version = over first (inl refl) in
    (falls.0, descends_with (suc first.version) rest last falls.1 (λ item later. over item (inr later)) (omega (arith, low)))

-- the versions of a sorted list do not rise backwards
pub sorted_back : (below : ℕ) (items : List Item) → IsSorted items → ((item : Item) → Among item items → item.version < below) → Descends below (backwards items)
sorted_back below [] sorted less = record {}
sorted_back below (first ∷ rest) sorted less =
    descends_with below (backwards rest) first (sorted_back below rest sorted.1 (λ item later. less item (inr later)))
    (λ item among. before_is_under first item (sorted.0 item (backwards_comes item rest among))) (less first (inl refl))

-- ---- each version and key once

-- the item at a place is among the list
pub got_among : (items : List Item) (i : ℕ) (x : Item) → slice_get items i ≡ Some x → Among x items
got_among [] i x got = absurd (cc)
got_among (first ∷ rest) zero x got = inl (cc)
got_among (first ∷ rest) (suc i) x got = inr (got_among rest i x got)

-- two places of a sorted list with one version and key are one place
pub place_once : (items : List Item) (i j : ℕ) (x y : Item) → IsSorted items → slice_get items i ≡ Some x → slice_get items j ≡ Some y → x.version ≡ y.version → x.key ≡ y.key → i ≡ j
place_once [] i j x y sorted here there version_is key_is = absurd (cc)
place_once (first ∷ rest) zero zero x y sorted here there version_is key_is = refl
place_once (first ∷ rest) zero (suc j) x y sorted here there version_is key_is =
    let is : first ≡ x = cc in
    let before : precedes first y ≡ true = sorted.0 y (got_among rest j y there) in
    absurd (before_differs x y (subst (λ (one : Item). precedes one y ≡ true) is before) version_is key_is)
place_once (first ∷ rest) (suc i) zero x y sorted here there version_is key_is =
    let is : first ≡ y = cc in
    let before : precedes first x ≡ true = sorted.0 x (got_among rest i x here) in
    absurd (before_differs y x (subst (λ (one : Item). precedes one x ≡ true) is before) (sym version_is) (sym key_is))
place_once (first ∷ rest) (suc i) (suc j) x y sorted here there version_is key_is = ap suc (place_once rest i j x y sorted.1 here there version_is key_is)

-- ---- a sorted list is determined by what is among it

-- the firsts of two sorted lists are one, where each is among the other list
firsts_same : (a b : Item) (rest others : List Item) → IsSorted (a ∷ rest) → IsSorted (b ∷ others) → Among a (b ∷ others) → Among b (a ∷ rest) → a ≡ b
firsts_same a b rest others sorted also (inl is) back = is
firsts_same a b rest others sorted also (inr later) (inl is) = sym is
firsts_same a b rest others sorted also (inr later) (inr too) = absurd (before_differs a a (before_both a b a (sorted.0 b too) (also.0 a later)) refl refl)

-- what is behind the first of a sorted list and among a list with that first is behind the first there
behind_first : (first item : Item) (rest others : List Item) → IsSorted (first ∷ rest) → Among item rest → Among item (first ∷ others) → Among item others
behind_first first item rest others sorted among (inl is) = absurd (before_differs first item (sorted.0 item among) (ap (λ (x : Item). x.version) (sym is)) (ap (λ (x : Item). x.key) (sym is)))
behind_first first item rest others sorted among (inr later) = later

-- sorted lists that have the same items are equal
pub sorted_same : (xs ys : List Item) → IsSorted xs → IsSorted ys → ((item : Item) → Among item xs → Among item ys) → ((item : Item) → Among item ys → Among item xs) → xs ≡ ys
sorted_same [] [] sorted also there back = refl
sorted_same [] (b ∷ others) sorted also there back = absurd (back b (inl refl))
sorted_same (a ∷ rest) [] sorted also there back = absurd (there a (inl refl))
sorted_same (a ∷ rest) (b ∷ others) sorted also there back =
    let is : a ≡ b = firsts_same a b rest others sorted also (there a (inl refl)) (back b (inl refl)) in
    let rests : rest ≡ others = sorted_same rest others sorted.1 also.1
    (λ item among. behind_first a item rest others sorted among (subst (λ (one : Item). Among item (one ∷ others)) (sym is) (there item (inr among))))
    (λ item among. behind_first b item others rest also among (subst (λ (one : Item). Among item (one ∷ rest)) is (back item (inr among)))) in
    λ i. is i ∷ rests i
