-- The items at places: how many, which, and one more.
use Rattle.std.proofs.Common.{◌≡◌, ℕ, zero, suc, ◌+◌, ◌<◌, ◌≤◌, List, [], ◌∷◌, ◌++◌, length, map, get_or, insert, refl, sym, ap, subst, ◌∙◌, arith, IsPermutation, IsSortedBy}
use Rattle.std.specs.List.{AllByRecursion, range_with_len}
use Rattle.std.proofs.lemmas.List.FromFn.{fill_by_all}
use Rattle.std.proofs.lemmas.List.Elements.{All-from_recursion, recursion_from_All}
use Rattle.std.proofs.lemmas.List.Sorted.{IsPermutation-refl, IsPermutation-map, IsPermutation-sym, IsPermutation-trans, IsPermutation-cons, IsPermutation-to_front, IsPermutation-insert, All-permutation, length_permutation}
use Rattle.std.proofs.lemmas.Option.{slice_get-get_or}
use Rattle.ov_base.proofs.Lists.{all_at, get_front, get_next}
use Rattle.ov_lists.specs.Entries.{Entry, stands_before}
use Rattle.ov_lists.specs.Parts.{flat, part_at, place_in, picked, listed, IsIndex}
use Rattle.ov_lists.proofs.Parts.{read_flat, ends_within}
use Rattle.ov_lists.proofs.Sorting.{Stays, stays_from, ordered_again}

-- ---- all places

-- numbers from one on are below another
range_below : (a n end : ℕ) → a + n ≤ end → AllByRecursion (λ p. p < end) (range_with_len a n)
range_below a zero end le = tt
range_below a (suc n) end le = (omega (arith, le), range_below (a + 1) n end (omega (arith, le)))

-- places of all items are places of items
pub places_below : (n : ℕ) (places : List ℕ) → IsPermutation (range_with_len 0 n) places → AllByRecursion (λ p. p < n) places
places_below n places h =
    recursion_from_All (λ p. p < n) places (All-permutation (λ p. p < n) (range_with_len 0 n) places h (All-from_recursion (λ p. p < n) (range_with_len 0 n) (range_below 0 n n (omega arith))))

range_more : (a n end : ℕ) → a + n ≡ end → range_with_len a (suc n) ≡ range_with_len a n ++ end ∷ []
range_more a zero end is = let same : a ≡ end = omega (arith, is) in ap (λ (k : ℕ). k ∷ []) same
range_more a (suc n) end is = ap (λ (t : List ℕ). a ∷ t) (range_more (a + 1) n end (omega (arith, is)))

-- one more item has the next place
pub places_more : (n k : ℕ) (places : List ℕ) → IsPermutation (range_with_len 0 n) places → IsPermutation (range_with_len 0 (n + 1)) (insert places k n)
places_more n k places h =
    let next : n + 1 ≡ suc n = omega arith in
    let grown : range_with_len 0 (n + 1) ≡ range_with_len 0 n ++ n ∷ [] = ap (range_with_len 0) next ∙ range_more 0 n n (omega arith) in
    subst (λ (t : List ℕ). IsPermutation t (insert places k n)) (sym grown)
    (IsPermutation-trans (range_with_len 0 n ++ n ∷ []) (n ∷ places) (insert places k n)
    (IsPermutation-trans (range_with_len 0 n ++ n ∷ []) (n ∷ range_with_len 0 n) (n ∷ places) (IsPermutation-to_front (range_with_len 0 n) n) (IsPermutation-cons n (range_with_len 0 n) places h))
    (IsPermutation-insert places k n))

-- ---- the items there

module _ {X : Type 0} where
  pub count_picked : (items : List X) (places : List ℕ) → AllByRecursion (λ p. p < length items) places → length (picked items places) ≡ length places
  count_picked items [] h = refl
  count_picked [] (p ∷ ps) h = absurd (omega (arith, h.0))
  count_picked (x ∷ xs) (p ∷ ps) h = rw (slice_get-get_or (x ∷ xs) p x h.0) (ap suc (count_picked (x ∷ xs) ps h.1))

  pub picked_at : (items : List X) (places : List ℕ) (k place : ℕ) (d : X) → AllByRecursion (λ p. p < length items) places → k < length places → place ≡ get_or places k place
      → get_or (picked items places) k d ≡ get_or items place d
  picked_at items [] k place d h lt is = absurd (omega (arith, lt))
  picked_at [] (p ∷ ps) k place d h lt is = absurd (omega (arith, h.0))
  picked_at (x ∷ xs) (p ∷ ps) zero place d h lt is =
      rw (slice_get-get_or (x ∷ xs) p d h.0) (ap (λ n. get_or (x ∷ xs) n d) (sym is))
  picked_at (x ∷ xs) (p ∷ ps) (suc k) place d h lt is = rw (slice_get-get_or (x ∷ xs) p d h.0) (picked_at (x ∷ xs) ps k place d h.1 (omega (arith, lt)) is)

  picked_old : (items : List X) (x : X) (places : List ℕ) → AllByRecursion (λ p. p < length items) places → picked (items ++ x ∷ []) places ≡ picked items places
  picked_old items x [] h = refl
  picked_old [] x (p ∷ ps) h = absurd (omega (arith, h.0))
  picked_old (y ∷ ys) x (p ∷ ps) h =
      let here = slice_get-get_or (y ∷ ys) p y h.0 in
      rw (here, get_front (y ∷ ys) (x ∷ []) p (get_or (y ∷ ys) p y) here, picked_old (y ∷ ys) x ps h.1) refl

  -- one more item at its place is one more of those listed
  pub picked_insert : (items : List X) (x : X) (places : List ℕ) (k : ℕ) → AllByRecursion (λ p. p < length items) places → k ≤ length places
      → picked (items ++ x ∷ []) (insert places k (length items)) ≡ insert (picked items places) k x
  picked_insert items x places zero h le = rw (get_next items x, picked_old items x places h) refl
  picked_insert items x [] (suc k) h le = absurd (omega (arith, le))
  picked_insert [] x (p ∷ ps) (suc k) h le = absurd (omega (arith, h.0))
  picked_insert (y ∷ ys) x (p ∷ ps) (suc k) h le =
      let here = slice_get-get_or (y ∷ ys) p y h.0 in
      rw (here, get_front (y ∷ ys) (x ∷ []) p (get_or (y ∷ ys) p y) here) (ap (λ (t : List X). get_or (y ∷ ys) p y ∷ t) (picked_insert (y ∷ ys) x ps k h.1 (omega (arith, le))))

-- ---- an index

pub index_below : {T : Type 0} (items : List (Entry T)) (parts : List (List ℕ)) → IsIndex items parts → AllByRecursion (λ p. p < length items) (flat parts)
index_below items parts h = places_below (length items) (flat parts) h.all

-- a place that was read of a part is one of an item, and that item is listed there
pub read_part : {T : Type 0} (items : List (Entry T)) (parts : List (List ℕ)) (i offset : ℕ) (part : List ℕ) → IsIndex items parts → i < length parts → part ≡ part_at parts i → offset < length part
    → (get_or part offset 0 < length items) × ((e : Entry T) → e ≡ get_or items (get_or part offset 0) e → e ≡ get_or (listed items parts) (place_in parts i offset) e)
read_part items parts i offset part h lt same within =
    let place = get_or part offset 0 in
    let known = index_below items parts h in
    let at : place ≡ get_or (flat parts) (place_in parts i offset) place = read_flat parts i offset part 0 lt same within in
    let among : place_in parts i offset < length (flat parts) = omega (arith, ends_within parts i lt, within, ap length same) in (
      subst (λ (n : ℕ). n < length items) (sym at) (all_at (λ n. n < length items) (flat parts) (place_in parts i offset) place among known),
      λ e here. here ∙ sym (picked_at items (flat parts) (place_in parts i offset) place e known among at),
    )

pub count_listed : {T : Type 0} (items : List (Entry T)) (parts : List (List ℕ)) → IsIndex items parts → length (listed items parts) ≡ length (flat parts)
count_listed items parts h = count_picked items (flat parts) (index_below items parts h)

-- ---- all items

nothing : (places : List ℕ) → length places ≡ 0 → places ≡ []
nothing [] h = refl
nothing (p ∷ ps) h = absurd (omega (arith, h))

map_itself : {X : Type 0} (xs : List X) → map (λ x. x) xs ≡ xs
map_itself [] = refl
map_itself (x ∷ xs) = ap (λ (t : List _). x ∷ t) (map_itself xs)

picked_map : {X : Type 0} (items : List X) (x : X) (places : List ℕ) → AllByRecursion (λ p. p < length items) places → picked items places ≡ map (λ p. get_or items p x) places
picked_map items x [] h = refl
picked_map items x (p ∷ ps) h = rw (slice_get-get_or items p x h.0) (ap (λ (t : List _). get_or items p x ∷ t) (picked_map items x ps h.1))

-- the items at all places in their order are all
pub picked_all : {X : Type 0} (items : List X) → picked items (range_with_len 0 (length items)) ≡ items
picked_all [] = refl
picked_all (x ∷ xs) =
    picked_map (x ∷ xs) x (range_with_len 0 (length (x ∷ xs))) (range_below 0 (length (x ∷ xs)) (length (x ∷ xs)) (omega arith))
    ∙ sym (fill_by_all (λ p. get_or (x ∷ xs) p x) (x ∷ xs) (length (x ∷ xs)) x refl (λ k lt. refl))

-- the items at all places in another order are all in another order
pub picked_moved : {X : Type 0} (items : List X) (places : List ℕ) → IsPermutation (range_with_len 0 (length items)) places → IsPermutation items (picked items places)
picked_moved {X} [] places h =
    let none : places ≡ [] = nothing places (omega (arith, length_permutation (range_with_len 0 0) places h)) in
    subst (λ (t : List ℕ). IsPermutation {X = X} [] (picked {X = X} [] t)) (sym none) (IsPermutation-refl {X = X} [])
picked_moved (x ∷ xs) places h =
    let all = range_with_len 0 (length (x ∷ xs)) in
    subst (λ (t : List _). IsPermutation t (picked (x ∷ xs) places)) (picked_all (x ∷ xs))
    (subst (λ (t : List _). IsPermutation t (picked (x ∷ xs) places)) (sym (picked_map (x ∷ xs) x all (range_below 0 (length (x ∷ xs)) (length (x ∷ xs)) (omega arith))))
    (subst (λ (t : List _). IsPermutation (map (λ p. get_or (x ∷ xs) p x) all) t) (sym (picked_map (x ∷ xs) x places (places_below (length (x ∷ xs)) places h)))
    (IsPermutation-map (λ p. get_or (x ∷ xs) p x) all places h)))

-- items of an index that are sorted are those listed
pub sorted_listed : {T : Type 0} (items moved : List (Entry T)) (parts : List (List ℕ)) → IsIndex items parts → IsPermutation items moved → IsSortedBy stands_before moved → moved ≡ listed items parts
sorted_listed {T} items moved parts h same sorted =
    ordered_again (listed items parts) moved h.ordered
    (IsPermutation-trans (listed items parts) items moved (IsPermutation-sym items (listed items parts) (picked_moved items (flat parts) h.all)) same)
    (subst (Stays stands_before) (map_itself moved) (stays_from (λ (e : Entry T). e) stands_before moved sorted))

-- items at all places in their order are listed as they are
pub listed_all : {X : Type 0} (items : List X) (parts : List (List ℕ)) (count : ℕ) → flat parts ≡ range_with_len 0 count → count ≡ length items → listed items parts ≡ items
listed_all items parts count places all = ap (picked items) (places ∙ ap (range_with_len 0) all) ∙ picked_all items
