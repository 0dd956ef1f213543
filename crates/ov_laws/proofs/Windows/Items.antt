-- Lists that have exactly the items of a window: each is the functor of its key, and each write of the window has its item.
use Rattle.std.proofs.Common.{◌≡◌, ℕ, ◌≤◌, inl, inr, Option, Some, None, List, [], ◌∷◌, ◌++◌, refl, sym, ap, ◌∙◌}
use Rattle.ov_functor.specs.declared.item.Item.{Item}
use Rattle.ov_functor.specs.declared.part.Part.{Part}
use Rattle.ov_functor.specs.Functor.{functor_of}
use Rattle.ov_functor.specs.Items.{written_keys, item_by, items_at, items_of}
use Rattle.ov_functor.specs.Placeholder.{Placeholder}
use Rattle.ov_functor.specs.Windows.{Among, Fits, Covers}
use Rattle.ov_functor.specs.Unions.{backwards}
use Rattle.ov_functor.proofs.ItemValues.{functor_writes}
use Rattle.ov_history.specs.Past.{History}
use Rattle.ov_history.specs.Serial.{begun_at, InWindow}
use Rattle.ov_laws.proofs.Windows.Added.{items_fit}
use Rattle.ov_functor.proofs.Unions.{backwards_comes, backwards_has}
use Rattle.ov_laws.specs.Harvests.{IsWindow}

-- ---- items of a transaction

-- a key with a functor has its item among those of these keys
item_stands_at : (version : ℕ) (transaction : List Part) (keys : List (List ℕ)) (key : List ℕ) (functor : Placeholder) → functor_of transaction key ≡ Some functor → Among key keys
    → Among (record { version = version; key = key; functor = functor }) (items_at version transaction keys)
item_stands_at version transaction [] key functor is among = absurd among
item_stands_at version transaction (first ∷ keys) key functor is among = by (functor_of transaction first) refl among (item_stands_at version transaction keys key functor is)
  where
    by : (o : Option Placeholder) → functor_of transaction first ≡ o → Among key (first ∷ keys)
        → (Among key keys → Among (record { version = version; key = key; functor = functor }) (items_at version transaction keys))
        → Among (record { version = version; key = key; functor = functor }) (item_by version first o ++ items_at version transaction keys)
    by None none (inl same) later = let bad : ◌≡◌ {A = Option Placeholder} (Some functor) None = sym is ∙ (ap (functor_of transaction) same ∙ none) in absurd (cc)
    by None none (inr old) later = later old
    by (Some found) some (inl same) later =
        let both : ◌≡◌ {A = Option Placeholder} (Some functor) (Some found) = sym is ∙ (ap (functor_of transaction) same ∙ some) in
        let one : functor ≡ found = cc in
        inl (λ i. record { version = version; key = same i; functor = one i })
    by (Some found) some (inr old) later = inr (later old)

-- a key with a functor has its item among those of the transaction
item_stands : (version : ℕ) (transaction : List Part) (key : List ℕ) (functor : Placeholder) → functor_of transaction key ≡ Some functor
    → Among (record { version = version; key = key; functor = functor }) (items_of version transaction)
item_stands version transaction key functor is = item_stands_at version transaction (written_keys transaction) key functor is (functor_writes key transaction functor is)

-- ---- windows

-- a list backwards has the items of the window that it has
pub window_back : (h : History) (from below : ℕ) (items : List Item) → IsWindow h from below items → IsWindow h from below (backwards items)
window_back h from below items window item = ((λ among. (window item).0 (backwards_comes item items among)), (λ inside. backwards_has item items ((window item).1 inside)))

-- each item of a window is the functor of its key in the transaction of its version, from the lower end on
pub window_fits : (h : History) (from below : ℕ) (items : List Item) → IsWindow h from below items → (item : Item) → Among item items → (from ≤ item.version) × Fits (begun_at h) item
window_fits h from below items window item among =
    let inside : InWindow h from below item = (window item).0 among in
    (inside.low, record { transaction = inside.transaction; begun_is = inside.begun; functor_is = (items_fit item.version inside.transaction item inside.within).1 })

-- each write of a window has its item
pub window_covers : (h : History) (from below : ℕ) (items : List Item) → IsWindow h from below items → Covers (begun_at h) items from below
window_covers h from below items window version key low high writes =
    let item : Item = record { version = version; key = key; functor = writes.functor } in
    let inside : InWindow h from below item = record {
      transaction = writes.transaction;
      begun = writes.begun_is;
      within = item_stands version writes.transaction key writes.functor writes.functor_is;
      low = low;
      high = high;
    } in
    record { found = item; within = (window item).1 inside; version_is = refl; key_is = refl }
