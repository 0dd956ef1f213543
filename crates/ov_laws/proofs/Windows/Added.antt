-- Which items are among those that are filtered, placed by key, or kept in one partition.
use Rattle.std.proofs.Common.{◌≡◌, ◌==◌, ℕ, zero, suc, Bool, true, false, ◌⊎◌, inl, inr, ◌||◌, Option, Some, None, List, [], ◌∷◌, ◌++◌, take, drop, cond, refl, sym, ap, subst, ◌∙◌, arith}
use Rattle.std.specs.Prelude.{if◌then◌else◌}
use Rattle.std.specs.List.{filter, insert, list_any}
use Rattle.std.proofs.lemmas.Grind.{common_steps}
use Rattle.ov_functor.specs.Functor.{functor_of}
use Rattle.ov_functor.specs.Items.{keys_in, written_keys, item_by, items_at, items_of}
use Rattle.ov_functor.specs.Placeholder.{Placeholder}
use Rattle.ov_functor.specs.Windows.{Among}
use Rattle.ov_functor.proofs.Among.{among_back, among_either}
use Rattle.ov_functor.specs.declared.item.Item.{Item}
use Rattle.ov_functor.specs.declared.part.Part.{Part}
use Rattle.ov_topology.specs.Shape.{Shape, place_of}
use Rattle.ov_event.specs.Letters.{place_in, placed, placed_all, by_key, items_in, is_kept, part_touches, touches}

-- ---- filtered items

-- what passes stays
pub filter_keeps : {X : Type 0} (test : X → Bool) (x : X) (xs : List X) → Among x xs → test x ≡ true → Among x (filter test xs)
filter_keeps test x [] among passes = absurd among
filter_keeps {X} test x (first ∷ rest) among passes = by (test first) refl among (λ later. filter_keeps test x rest later passes)
  where
    by : (b : Bool) → test first ≡ b → (x ≡ first) ⊎ Among x rest → (Among x rest → Among x (filter test rest)) → Among x (cond b (first ∷ filter test rest) (filter test rest))
    by true is (inl same) later = inl same
    by true is (inr old) later = inr (later old)
    by false is (inl same) later = let bad : true ≡ false = sym passes ∙ (ap test same ∙ is) in absurd cc
    by false is (inr old) later = later old

-- what stays was there and passes
pub filter_comes : {X : Type 0} (test : X → Bool) (x : X) (xs : List X) → Among x (filter test xs) → Among x xs × (test x ≡ true)
filter_comes test x [] among = absurd among
filter_comes {X} test x (first ∷ rest) among = by (test first) refl among (filter_comes test x rest)
  where
    of : Among x rest × (test x ≡ true) → Among x (first ∷ rest) × (test x ≡ true)
    of is = (inr is.0, is.1)

    by : (b : Bool) → test first ≡ b → Among x (cond b (first ∷ filter test rest) (filter test rest)) → (Among x (filter test rest) → Among x rest × (test x ≡ true)) → Among x (first ∷ rest) × (test x ≡ true)
    by true is (inl same) later = (inl same, ap test same ∙ is)
    by true is (inr old) later = of (later old)
    by false is old later = of (later old)

-- ---- items by key

-- an item is among those where it is inserted
insert_new : {X : Type 0} (xs : List X) (i : ℕ) (new : X) → Among new (insert xs i new)
insert_new xs i new = among_back new (take i xs) (new ∷ drop i xs) (inl refl)

-- an item stays where another is inserted
insert_keeps : {X : Type 0} (x : X) (xs : List X) (i : ℕ) (new : X) → Among x xs → Among x (insert xs i new)
insert_keeps x xs zero new among = inr among
insert_keeps x [] (suc i) new among = absurd among
insert_keeps x (first ∷ rest) (suc i) new (inl same) = inl same
insert_keeps x (first ∷ rest) (suc i) new (inr later) = inr (insert_keeps x rest i new later)

-- what is among items where one is inserted is that one or was there
insert_comes : {X : Type 0} (x : X) (xs : List X) (i : ℕ) (new : X) → Among x (insert xs i new) → (x ≡ new) ⊎ Among x xs
insert_comes x xs zero new among = among
insert_comes x [] (suc i) new among = among
insert_comes x (first ∷ rest) (suc i) new (inl same) = inr (inl same)
insert_comes {X} x (first ∷ rest) (suc i) new (inr later) = of (insert_comes x rest i new later)
  where
    of : (x ≡ new) ⊎ Among x rest → (x ≡ new) ⊎ Among x (first ∷ rest)
    of (inl is) = inl is
    of (inr old) = inr (inr old)

-- an item stays where others are placed by key
placed_keeps : (item : Item) (front items : List Item) → Among item front → Among item (placed_all front items)
placed_keeps item front [] among = among
placed_keeps item front (one ∷ items) among = placed_keeps item (placed one front) items (insert_keeps item front (place_in one.key front) one among)

-- each item is among those that are placed by key
placed_has : (item : Item) (front items : List Item) → Among item items → Among item (placed_all front items)
placed_has item front [] among = absurd among
placed_has item front (one ∷ items) (inl is) =
    subst (λ (x : Item). Among x (placed_all (placed one front) items)) (sym is) (placed_keeps one (placed one front) items (insert_new front (place_in one.key front) one))
placed_has item front (one ∷ items) (inr later) = placed_has item (placed one front) items later

-- what is placed by key was among the items or those in front
placed_comes : (item : Item) (front items : List Item) → Among item (placed_all front items) → Among item front ⊎ Among item items
placed_comes item front [] among = inl among
placed_comes item front (one ∷ items) among = by (placed_comes item (placed one front) items among)
  where
    of : (item ≡ one) ⊎ Among item front → Among item front ⊎ Among item (one ∷ items)
    of (inl is) = inr (inl is)
    of (inr old) = inl old

    by : Among item (placed one front) ⊎ Among item items → Among item front ⊎ Among item (one ∷ items)
    by (inl here) = of (insert_comes item front (place_in one.key front) one here)
    by (inr later) = inr (inr later)

-- each item is among the items by key
pub by_key_has : (item : Item) (items : List Item) → Among item items → Among item (by_key items)
by_key_has item items among = placed_has item [] items among

-- what is among the items by key is one of the items
pub by_key_comes : (item : Item) (items : List Item) → Among item (by_key items) → Among item items
by_key_comes item items among = by (placed_comes item [] items among)
  where
    by : Among item [] ⊎ Among item items → Among item items
    by (inl here) = absurd here
    by (inr there) = there

-- ---- items of one partition

-- an item is among those of its partition
pub items_in_has : (t : Shape) (part : ℕ) (item : Item) (items : List Item) → Among item items → place_of t item.key ≡ part → Among item (items_in t part items)
items_in_has t part item [] among here = absurd among
items_in_has t part item (first ∷ rest) among here = by (place_of t first.key == part) refl among (λ later. items_in_has t part item rest later here)
  where
    by : (b : Bool) → (place_of t first.key == part) ≡ b → (item ≡ first) ⊎ Among item rest → (Among item rest → Among item (items_in t part rest))
        → Among item (if b then first ∷ items_in t part rest else items_in t part rest)
    by true is (inl same) later = inl same
    by true is (inr old) later = inr (later old)
    by false is (inl same) later = let e : place_of t first.key ≡ part = ap (λ (x : Item). place_of t x.key) (sym same) ∙ here in absurd (grind (arith, common_steps))
    by false is (inr old) later = later old

-- what is among the items of a partition is one of the items
pub items_in_comes : (t : Shape) (part : ℕ) (item : Item) (items : List Item) → Among item (items_in t part items) → Among item items
items_in_comes t part item [] among = among
items_in_comes t part item (first ∷ rest) among = by (place_of t first.key == part) among (items_in_comes t part item rest)
  where
    by : (b : Bool) → Among item (if b then first ∷ items_in t part rest else items_in t part rest) → (Among item (items_in t part rest) → Among item rest) → Among item (first ∷ rest)
    by true (inl same) later = inl same
    by true (inr old) later = inr (later old)
    by false old later = inr (later old)

-- ---- items of a transaction

-- an item of a transaction has its version and the functor of its key, which is one of these keys
items_at_fit : (version : ℕ) (transaction : List Part) (keys : List (List ℕ)) (item : Item) → Among item (items_at version transaction keys)
    → (item.version ≡ version) × (functor_of transaction item.key ≡ Some item.functor) × Among item.key keys
items_at_fit version transaction [] item among = absurd among
items_at_fit version transaction (key ∷ keys) item among = by (functor_of transaction key) refl among (items_at_fit version transaction keys item)
  where
    of : (item.version ≡ version) × (functor_of transaction item.key ≡ Some item.functor) × Among item.key keys
        → (item.version ≡ version) × (functor_of transaction item.key ≡ Some item.functor) × Among item.key (key ∷ keys)
    of is = (is.0, is.1, inr is.2)

    by : (o : Option Placeholder) → functor_of transaction key ≡ o → Among item (item_by version key o ++ items_at version transaction keys)
        → (Among item (items_at version transaction keys) → (item.version ≡ version) × (functor_of transaction item.key ≡ Some item.functor) × Among item.key keys)
        → (item.version ≡ version) × (functor_of transaction item.key ≡ Some item.functor) × Among item.key (key ∷ keys)
    by None is old later = of (later old)
    by (Some functor) is (inl same) later =
        let key_is : item.key ≡ key = ap (λ (x : Item). x.key) same in
        let functor_is : item.functor ≡ functor = ap (λ (x : Item). x.functor) same in
        (ap (λ (x : Item). x.version) same, ap (functor_of transaction) key_is ∙ (is ∙ ap (λ (f : Placeholder). Some f) (sym functor_is)), inl key_is)
    by (Some functor) is (inr old) later = of (later old)

-- an item of a transaction has its version, and the functor of its key
pub items_fit : (version : ℕ) (transaction : List Part) (item : Item) → Among item (items_of version transaction)
    → (item.version ≡ version) × (functor_of transaction item.key ≡ Some item.functor)
items_fit version transaction item among = let is = items_at_fit version transaction (written_keys transaction) item among in (is.0, is.1)

-- a part touches the partitions of the keys that it writes
kept_among : (t : Shape) (key : List ℕ) (keys : List (List ℕ)) → Among key keys → list_any (is_kept t (place_of t key)) keys ≡ true
kept_among t key [] among = absurd among
kept_among t key (first ∷ rest) (inl same) = subst (λ (k : List ℕ). (is_kept t (place_of t key) k || list_any (is_kept t (place_of t key)) rest) ≡ true) same (grind (arith, common_steps))
kept_among t key (first ∷ rest) (inr later) = let old = kept_among t key rest later in grind (arith, common_steps)

-- a transaction touches the partitions of the keys that it writes
written_touch : (t : Shape) (key : List ℕ) (transaction : List Part) → Among key (written_keys transaction) → touches t transaction (place_of t key) ≡ true
written_touch t key [] among = absurd among
written_touch t key (part ∷ others) among = by (among_either key (keys_in part) (written_keys others) among) (written_touch t key others)
  where
    by : Among key (keys_in part) ⊎ Among key (written_keys others) → (Among key (written_keys others) → touches t others (place_of t key) ≡ true) → touches t (part ∷ others) (place_of t key) ≡ true
    by (inl here) later = let now : part_touches t (place_of t key) part ≡ true = kept_among t key (keys_in part) here in rw now refl
    by (inr old) later = let rest : touches t others (place_of t key) ≡ true = later old in grind (arith, common_steps)

-- a transaction touches the partition of each of its items
pub items_touch : (t : Shape) (version : ℕ) (transaction : List Part) (item : Item) → Among item (items_of version transaction) → touches t transaction (place_of t item.key) ≡ true
items_touch t version transaction item among = written_touch t item.key transaction (items_at_fit version transaction (written_keys transaction) item among).2
