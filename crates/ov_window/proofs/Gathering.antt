-- Answers one behind the other: that one that equals an earlier one adds nothing to the union.
use Rattle.std.proofs.Common.{◌≡◌, ℕ, zero, suc, ◌<◌, Bool, true, false, ◌⊎◌, inl, inr, List, [], ◌∷◌, ◌++◌, length, map, get_or, refl, sym, ap, subst, ◌∙◌, arith}
use Rattle.std.specs.Prelude.{if◌then◌else◌}
use Rattle.std.proofs.lemmas.Bool.{both_ways}
use Rattle.std.proofs.lemmas.Grind.{common_steps, flat_map-append}
use Rattle.std.proofs.lemmas.List.{append-nil}
use Rattle.ov_base.specs.Key.{key_eq}
use Rattle.ov_base.proofs.Keys.{key_eq-self}
use Rattle.ov_functor.specs.declared.item.Item.{Item}
use Rattle.ov_functor.specs.Unions.{IsSorted, added, all_added, precedes, same_place, union}
use Rattle.ov_functor.specs.Windows.{Among, HasItem}
use Rattle.ov_functor.proofs.Among.{among_back, among_front}
use Rattle.ov_functor.proofs.Unions.{all_added_has, all_added_sorted, before_both, before_differs, else_after}
use Rattle.ov_window.specs.Harvest.{joined}

-- ---- what is added to a union

-- where items are added, and others behind them
pub added_behind : (xs ys items : List Item) → all_added (xs ++ ys) items ≡ all_added ys (all_added xs items)
added_behind [] ys items = refl
added_behind (x ∷ xs) ys items = added_behind xs ys (added x items)

-- items of one version and key are of one place
place_from : (a b : Item) → a.version ≡ b.version → a.key ≡ b.key → same_place a b ≡ true
place_from a b version_is key_is =
    let key : key_eq a.key b.key ≡ true = ap (λ (k : List ℕ). key_eq k b.key) key_is ∙ key_eq-self b.key in
    grind (arith, common_steps)

-- sorted items that have one of its version and key stay where an item is added
added_there : (new : Item) (items : List Item) → IsSorted items → HasItem items new.version new.key → added new items ≡ items
added_there new [] sorted has = absurd has.within
added_there new (first ∷ rest) sorted has = by (same_place first new) (precedes first new) refl refl (added_there new rest sorted.1)
  where
    later : same_place first new ≡ false → (has.found ≡ first) ⊎ Among has.found rest → Among has.found rest
    later differ (inl is) =
        let same = place_from first new (ap (λ (x : Item). x.version) (sym is) ∙ has.version_is) (ap (λ (x : Item). x.key) (sym is) ∙ has.key_is) in
        absurd (both_ways (same_place first new) differ same)
    later differ (inr there) = there

    by : (a b : Bool) → same_place first new ≡ a → precedes first new ≡ b → (HasItem rest new.version new.key → added new rest ≡ rest)
        → (if a then first ∷ rest else (if b then first ∷ added new rest else new ∷ first ∷ rest)) ≡ first ∷ rest
    by true b same before old = refl
    by false true same before old = ap (λ items. first ∷ items) (old (record { found = has.found; within = later same has.within; version_is = has.version_is; key_is = has.key_is }))
    by false false same before old =
        let behind : precedes new has.found ≡ true = before_both new first has.found (else_after first new same before) (sorted.0 has.found (later same has.within)) in
        absurd (before_differs new has.found behind (sym has.version_is) (sym has.key_is))

-- the same, where items are added each of whose version and key is there
all_added_there : (new items : List Item) → IsSorted items → ((item : Item) → Among item new → HasItem items item.version item.key) → all_added new items ≡ items
all_added_there [] items sorted has = refl
all_added_there (one ∷ others) items sorted has = ap (all_added others) (added_there one items sorted (has one (inl refl))) ∙ all_added_there others items sorted (λ item later. has item (inr later))

-- ---- answers

-- one list more
pub joined_more : {X : Type 0} (lists : List (List X)) (list : List X) → joined (lists ++ list ∷ []) ≡ joined lists ++ list
joined_more lists list = flat_map-append (λ one. one) lists (list ∷ []) ∙ ap (λ rest. joined lists ++ rest) (append-nil list)

-- what is among one of the lists is among all
among_joined : {X : Type 0} (x : X) (list : List X) (lists : List (List X)) → Among list lists → Among x list → Among x (joined lists)
among_joined x list [] there among = absurd there
among_joined x list (first ∷ rest) (inl is) among = among_front x first (joined rest) (subst (Among x) is among)
among_joined x list (first ∷ rest) (inr later) among = among_back x first (joined rest) (among_joined x list rest later among)

-- an element at a place is among all, by what is shown of each
pub among_shown : {X A : Type 0} (f : X → A) (xs : List X) (i : ℕ) (x : X) → i < length xs → x ≡ get_or xs i x → Among (f x) (map f xs)
among_shown f [] i x less is = absurd (omega (arith, less))
among_shown f (first ∷ rest) zero x less is = inl (ap f is)
among_shown f (first ∷ rest) (suc i) x less is = inr (among_shown f rest i x (omega (arith, less)) is)

-- an answer without items adds nothing to the union
pub empty_adds : (kept : List (List Item)) (answer : List Item) → answer ≡ [] → union (joined kept ++ answer) ≡ union (joined kept)
empty_adds kept answer empty = ap union (ap (λ (items : List Item). joined kept ++ items) empty ∙ append-nil (joined kept))

-- an answer that equals one of these adds nothing to their union
pub repeat_adds : (kept : List (List Item)) (answer : List Item) → Among answer kept → union (joined kept ++ answer) ≡ union (joined kept)
repeat_adds kept answer there =
    added_behind (joined kept) answer []
    ∙ all_added_there answer (union (joined kept)) (all_added_sorted (joined kept) [] tt) (λ item among. all_added_has item (joined kept) [] (among_joined item answer kept there among))

-- answers that have one union have one with an answer more
pub union_next : (kept all : List (List Item)) (answer : List Item) → union (joined kept) ≡ union (joined all) → union (joined kept ++ answer) ≡ union (joined (all ++ answer ∷ []))
union_next kept all answer same =
    added_behind (joined kept) answer [] ∙ ap (all_added answer) same ∙ sym (added_behind (joined all) answer []) ∙ sym (ap union (joined_more all answer))
