-- Splitting and joining undo each other.
use Rattle.std.proofs.Common.{◌≡◌, ℕ, Bool, true, false, eqb, Option, Some, None, List, [], ◌∷◌, ◌++◌, map, refl, sym, ap, ◌∙◌, append_assoc, inl, inr}
use Rattle.std.specs.List.{slice_split, onto_first, flat_map, AllByRecursion}
use Rattle.std.proofs.lemmas.Bool.{cases_Bool}
use Rattle.std.proofs.lemmas.Bool.Decides.{eqb_tells}
use Rattle.std.proofs.lemmas.List.{append-nil}
use Rattle.std.proofs.lemmas.List.Splits.{slice_split-cons_yes, slice_split-cons_no, slice_split_none, slice_split_at}
use Rattle.std.proofs.lemmas.List.Elements.{All-from_recursion}
use Rattle.std.specs.Option.{option_map}
use Rattle.ov_base.specs.Split.{cut_at, joined, lacks, onto}
use Rattle.ov_base.proofs.Lists.{all_appended}
use Rattle.ov_base.proofs.Splits.{lacks_appended}

-- the pieces of a split are never none
joined_onto : {X : Type 0} (y x : X) (pieces : List (List X)) → joined y (onto_first x pieces) ≡ x ∷ joined y pieces
joined_onto y x [] = refl
joined_onto y x (piece ∷ []) = refl
joined_onto y x (piece ∷ next ∷ pieces) = refl

pub split_some : {X : Type 0} (p : X → Bool) (xs : List X) → (piece : List X) × (pieces : List (List X)) × (slice_split p xs ≡ piece ∷ pieces)
split_some p [] = ([], [], refl)
split_some p (x ∷ xs) =
    elim (cases_Bool (p x)) [
      | inl here ↦ ([], slice_split p xs, slice_split-cons_yes p x xs here)
      | inr past ↦ let r = split_some p xs in (x ∷ r.0, r.1, slice_split-cons_no p x xs past ∙ ap (onto_first x) r.2)
    ]

-- the pieces round a byte, by what stands before the first one and behind it
abbrev pub pieces_by : ℕ → List ℕ → Option (List ℕ × List ℕ) → List (List ℕ)
pieces_by b bytes None = bytes ∷ []
pieces_by b bytes (Some cut) = cut.0 ∷ slice_split (λ x. eqb x b) cut.1

-- the pieces round a byte are what stands before the first one, and the pieces of the rest
pub split_by_cut : (b : ℕ) (bytes : List ℕ) → slice_split (λ x. eqb x b) bytes ≡ pieces_by b bytes (cut_at b bytes)
split_by_cut b [] = refl
split_by_cut b (x ∷ xs) =
    elim (eqb_tells x b) [
      | inl e ↦ rw e.0 refl
      | inr e ↦ rw e.0 (ap (onto_first x) (split_by_cut b xs) ∙ by (cut_at b xs))
    ]
  where
    by : (o : Option (List ℕ × List ℕ)) → onto_first x (pieces_by b xs o) ≡ pieces_by b (x ∷ xs) (option_map (onto (x ∷ [])) o)
    by None = refl
    by (Some cut) = refl

-- a piece that is cut off stands in front of the pieces of the rest
pub split_cut : (b : ℕ) (bytes piece others : List ℕ) → cut_at b bytes ≡ Some (piece, others) → slice_split (λ x. eqb x b) bytes ≡ piece ∷ slice_split (λ x. eqb x b) others
split_cut b bytes piece others e = split_by_cut b bytes ∙ ap (pieces_by b bytes) e

-- a list without the byte is one piece
pub split_uncut : (b : ℕ) (bytes : List ℕ) → cut_at b bytes ≡ None → slice_split (λ x. eqb x b) bytes ≡ bytes ∷ []
split_uncut b bytes e = split_by_cut b bytes ∙ ap (pieces_by b bytes) e

-- the pieces of a split, joined, give the list back
pub joined_split : {X : Type 0} (p : X → Bool) (y : X) → ((x : X) → p x ≡ true → x ≡ y) → (xs : List X) → joined y (slice_split p xs) ≡ xs
joined_split p y only [] = refl
joined_split p y only (x ∷ xs) =
    elim (cases_Bool (p x)) [
      | inl here ↦ let r = split_some p xs in
          rw (slice_split-cons_yes p x xs here, r.2, only x here) (ap (λ (t : _). y ∷ t) (ap (joined y) (sym r.2) ∙ joined_split p y only xs))
      | inr past ↦ rw (slice_split-cons_no p x xs past) (joined_onto y x (slice_split p xs) ∙ ap (λ (t : _). x ∷ t) (joined_split p y only xs))
    ]

-- no element of the list passes
abbrev pub Lacks : {X : Type 0} → (X → Bool) → List X → Type 0
Lacks p xs = AllByRecursion (λ x. p x ≡ false) xs

-- pieces without y, joined, are split again
pub split_joined : {X : Type 0} (p : X → Bool) (y : X) → p y ≡ true → (piece : List X) (pieces : List (List X))
    → Lacks p piece → AllByRecursion (Lacks p) pieces → slice_split p (joined y (piece ∷ pieces)) ≡ piece ∷ pieces
split_joined p y here piece [] free each = slice_split_none p piece (All-from_recursion _ piece free)
split_joined p y here piece (next ∷ pieces) free each =
    slice_split_at p piece y (joined y (next ∷ pieces)) (All-from_recursion _ piece free) here
    ∙ ap (λ (t : _). piece ∷ t) (split_joined p y here next pieces each.0 each.1)

-- a list that lacks a byte, in the words of a split at that byte
pub lacks_each : (b : ℕ) (xs : List ℕ) → lacks b xs ≡ true → Lacks (λ x. eqb x b) xs
lacks_each b [] h = tt
lacks_each b (x ∷ xs) h =
    elim (eqb_tells x b) [
      | inl e ↦ let bad : false ≡ true = rw e.0 at h in absurd cc
      | inr e ↦ let rest : lacks b xs ≡ true = rw e.0 at h in (e.0, lacks_each b xs rest)
    ]

-- pieces, joined, and y behind the last: each with its y
pub joined_ends : {X Y : Type 0} (y : X) (text : Y → List X) (piece : List X) (items : List Y)
    → joined y (piece ∷ map text items) ++ y ∷ [] ≡ piece ++ y ∷ flat_map (λ item. text item ++ y ∷ []) items
joined_ends y text piece [] = refl
joined_ends y text piece (item ∷ items) =
    append_assoc piece (y ∷ joined y (text item ∷ map text items)) (y ∷ [])
    ∙ ap (λ (t : _). piece ++ y ∷ t)
    (joined_ends y text (text item) items ∙ sym (append_assoc (text item) (y ∷ []) (flat_map (λ item. text item ++ y ∷ []) items)))

-- pieces, each but the first with y before it, are the pieces joined
pub joined_flat : {X : Type 0} (y : X) (piece : List X) (pieces : List (List X)) → piece ++ flat_map (λ p. y ∷ p) pieces ≡ joined y (piece ∷ pieces)
joined_flat y piece [] = append-nil piece
joined_flat y piece (next ∷ pieces) = ap (λ (t : _). piece ++ y ∷ t) (joined_flat y next pieces)

-- pieces behind pieces
pub joined_behind : {X : Type 0} (y : X) (piece : List X) (pieces : List (List X)) (next : List X) (others : List (List X))
    → joined y ((piece ∷ pieces) ++ next ∷ others) ≡ joined y (piece ∷ pieces) ++ y ∷ joined y (next ∷ others)
joined_behind y piece [] next others = refl
joined_behind y piece (second ∷ pieces) next others =
    ap (λ (t : _). piece ++ y ∷ t) (joined_behind y second pieces next others)
    ∙ sym (append_assoc piece (y ∷ joined y (second ∷ pieces)) (y ∷ joined y (next ∷ others)))

-- the list has an element
abbrev pub HasFirst : {X : Type 0} → List X → Type 0
HasFirst {X} xs = (first : X) × (others : List X) × (xs ≡ first ∷ others)

-- lists of which the first has an element, joined, have one
pub joined_first : {X Y : Type 0} (z : X) (pieces : Y → List X) → ((item : Y) → HasFirst (pieces item)) → (item : Y) (items : List Y) → HasFirst (joined z (map pieces (item ∷ items)))
joined_first z pieces some item [] = some item
joined_first z pieces some item (next ∷ items) =
    let s = some item in
    (s.0, s.1 ++ z ∷ joined z (map pieces (next ∷ items)), ap (λ (t : _). t ++ z ∷ joined z (map pieces (next ∷ items))) s.2)

joined_apart : {X : Type 0} (y : X) (front back : List (List X)) (z : List X) → HasFirst front → HasFirst back
    → joined y (front ++ z ∷ back) ≡ joined y front ++ y ∷ z ++ y ∷ joined y back
joined_apart y front back z f b =
    rw (f.2, b.2) (joined_behind y f.0 f.1 z (b.0 ∷ b.1) ∙ sym (append_assoc (joined y (f.0 ∷ f.1)) (y ∷ z) (y ∷ joined y (b.0 ∷ b.1))))

regrouped : {X : Type 0} (y : X) (front mid next others : List X) → front ++ mid ++ y ∷ (next ++ others) ≡ front ++ (((mid ++ y ∷ []) ++ next) ++ others)
regrouped y front mid next others =
    append_assoc front mid (y ∷ (next ++ others))
    ∙ ap (λ (t : _). front ++ t) (sym (append_assoc (mid ++ y ∷ []) next others ∙ append_assoc mid (y ∷ []) (next ++ others)))

-- groups of pieces with the piece z between the groups, joined: z stands behind the first group before each further one
pub joined_onto_groups : {X Y : Type 0} (y : X) (z : List X) (pieces : Y → List (List X)) → ((item : Y) → HasFirst (pieces item)) → (group : List (List X)) → HasFirst group → (items : List Y)
    → joined y (joined z (group ∷ map pieces items)) ≡ joined y group ++ flat_map (λ item. (y ∷ z ++ y ∷ []) ++ joined y (pieces item)) items
joined_onto_groups y z pieces some group first [] = sym (append-nil (joined y group))
joined_onto_groups y z pieces some group first (next ∷ items) =
    joined_apart y group (joined z (map pieces (next ∷ items))) z first (joined_first z pieces some next items)
    ∙ ap (λ (t : _). joined y group ++ y ∷ z ++ y ∷ t) (joined_onto_groups y z pieces some (pieces next) (some next) items)
    ∙ regrouped y (joined y group) (y ∷ z) (joined y (pieces next)) (flat_map (λ item. (y ∷ z ++ y ∷ []) ++ joined y (pieces item)) items)

-- the same where the first group is one of an item too
pub joined_groups : {X Y : Type 0} (y : X) (z : List X) (pieces : Y → List (List X)) → ((item : Y) → HasFirst (pieces item)) → (item : Y) (items : List Y)
    → joined y (joined z (map pieces (item ∷ items))) ≡ joined y (pieces item) ++ flat_map (λ item. (y ∷ z ++ y ∷ []) ++ joined y (pieces item)) items
joined_groups y z pieces some item items = joined_onto_groups y z pieces some (pieces item) (some item) items

-- pieces without y, of which there is one, joined, are split again
pub split_again : {X : Type 0} (p : X → Bool) (y : X) → p y ≡ true → (pieces : List (List X)) → HasFirst pieces → AllByRecursion (Lacks p) pieces → slice_split p (joined y pieces) ≡ pieces
split_again {X} p y here [] some each = let bad : ◌≡◌ {A = List (List X)} [] (some.0 ∷ some.1) = some.2 in absurd cc
split_again p y here (piece ∷ pieces) some each = split_joined p y here piece pieces each.0 each.1

-- what holds of y and of each element of each piece holds of each element of the pieces, joined
pub each_joined : {X : Type 0} (Holds : X → Type 0) (y : X) → Holds y → (pieces : List (List X)) → AllByRecursion (AllByRecursion Holds) pieces → AllByRecursion Holds (joined y pieces)
each_joined Holds y here [] h = tt
each_joined Holds y here (piece ∷ []) h = h.0
each_joined Holds y here (piece ∷ next ∷ pieces) h = all_appended Holds piece (y ∷ joined y (next ∷ pieces)) h.0 (here, each_joined Holds y here (next ∷ pieces) h.1)

-- pieces that lack a byte, joined by another, lack it
pub lacks_joined : (b y : ℕ) → eqb y b ≡ false → (pieces : List (List ℕ)) → AllByRecursion (λ piece. lacks b piece ≡ true) pieces → lacks b (joined y pieces) ≡ true
lacks_joined b y other [] h = refl
lacks_joined b y other (piece ∷ []) h = h.0
lacks_joined b y other (piece ∷ next ∷ pieces) h = lacks_appended b piece (y ∷ joined y (next ∷ pieces)) h.0 (rw other (lacks_joined b y other (next ∷ pieces) h.1))
