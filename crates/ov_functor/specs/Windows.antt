-- Windows: lists of items that have all that is written from one number up to another.
use Rattle.std.specs.Prelude.{◌≡◌, ◌<◌, ◌≤◌, ◌⊎◌, ℕ, suc, Option, Some, List, [], ◌∷◌}
use Rattle.ov_functor.specs.declared.item.Item.{Item}
use Rattle.ov_functor.specs.declared.part.Part.{Part}
use Rattle.ov_functor.specs.Functor.{functor_of}
use Rattle.ov_functor.specs.Placeholder.{Placeholder}

-- the list has this one
abbrev pub Among : {X : Type 0} → X → List X → Type 0
Among one [] = ⊥
Among one (first ∷ others) = (one ≡ first) ⊎ Among one others

-- The transaction of this version writes the key.
pub record Writes (begun : ℕ → Option (List Part)) (version : ℕ) (key : List ℕ) : Type 0 where
  pub transaction : List Part
  pub functor : Placeholder
  pub begun_is : begun version ≡ Some transaction
  pub functor_is : functor_of transaction key ≡ Some functor

-- The item is one of the transaction of its version.
pub record Fits (begun : ℕ → Option (List Part)) (item : Item) : Type 0 where
  pub transaction : List Part
  pub begun_is : begun item.version ≡ Some transaction
  pub functor_is : functor_of transaction item.key ≡ Some item.functor

-- The list has an item of this version and key.
pub record HasItem (items : List Item) (version : ℕ) (key : List ℕ) : Type 0 where
  pub found : Item
  pub within : Among found items
  pub version_is : found.version ≡ version
  pub key_is : found.key ≡ key

-- each write from one number up to another has its item
abbrev pub Covers : (ℕ → Option (List Part)) → List Item → ℕ → ℕ → Type 0
Covers begun items from below = (version : ℕ) (key : List ℕ) → from ≤ version → version < below → Writes begun version key → HasItem items version key

-- the versions are below a number and do not rise
abbrev pub Descends : ℕ → List Item → Type 0
Descends below [] = Unit {0}
Descends below (item ∷ older) = (item.version < below) × Descends (suc item.version) older
