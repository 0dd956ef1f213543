-- Places of items, in blocks: what contracts see of the blocks, and what they mean for the items.
use Rattle.std.specs.Prelude.{◌≡◌, ℕ, zero, suc, ◌+◌, ◌^◌, ◌<◌, ◌≤◌, List, [], ◌∷◌, ◌++◌, length, map, slice_get, slice_index_or, IsPermutation}
use Rattle.std.specs.List.{AllByRecursion, filter_map, range_with_len}
use Rattle.ov_lists.specs.Entries.{Entry, IsOrdered}

-- What contracts see of blocks: the places of each in their order, and for how many more blocks there is room.
pub record Cut : Type 0 where
  pub parts : List (List ℕ)
  pub spare : ℕ

-- ---- the blocks in an order

-- the blocks that an order names
abbrev pub in_order : List (List ℕ) → List ℕ → List (List ℕ)
in_order blocks order = map (λ number. slice_index_or blocks number []) order

-- no number stands twice
abbrev pub IsDistinct : List ℕ → Type 0
IsDistinct [] = Unit {0}
IsDistinct (number ∷ numbers) = AllByRecursion (λ other. number ≡ other → ⊥) numbers × IsDistinct numbers

-- Each block stands in the order once, and none is empty or has more than 32 places.
pub record IsFiled (blocks : List (List ℕ)) (order : List ℕ) : Type 0 where
  pub known : AllByRecursion (λ number. number < length blocks) order
  pub once : IsDistinct order
  pub same : length order ≡ length blocks
  pub some : AllByRecursion (λ part. (0 < length part) × (length part ≤ 32)) (in_order blocks order)

-- ---- the places

-- the places of all parts, one part behind the other
abbrev pub flat : {X : Type 0} → List (List X) → List X
flat [] = []
flat (part ∷ parts) = part ++ flat parts

-- the places of a part
abbrev pub part_at : {X : Type 0} → List (List X) → ℕ → List X
part_at parts i = slice_index_or parts i []

-- how many places stand before a part
abbrev pub start : {X : Type 0} → List (List X) → ℕ → ℕ
start parts zero = 0
start [] (suc i) = 0
start (part ∷ parts) (suc i) = length part + start parts i

-- the place in a part, among all
abbrev pub place_in : {X : Type 0} → List (List X) → ℕ → ℕ → ℕ
place_in parts block offset = start parts block + offset

-- A place in a part, or behind its last; where there is no part, the first in the first.
pub record IsWithin {X : Type 0} (parts : List (List X)) (block offset : ℕ) : Type 0 where
  pub there : 0 < length parts → block < length parts
  pub none : length parts ≡ 0 → block ≡ 0
  pub within : offset ≤ length (part_at parts block)

-- no part is empty
abbrev pub AreSome : {X : Type 0} → List (List X) → Type 0
AreSome parts = (i : ℕ) → i < length parts → 0 < length (part_at parts i)

-- A place in a part, or the end of all.
pub record IsAt {X : Type 0} (parts : List (List X)) (block offset : ℕ) : Type 0 where
  pub inside : block < length parts → offset < length (part_at parts block)
  pub end : length parts ≤ block → place_in parts block offset ≡ length (flat parts)

-- ---- the items at places

-- the items that stand at places
abbrev pub picked : {X : Type 0} → List X → List ℕ → List X
picked items places = filter_map (slice_get items) places

-- the items at the places of parts
abbrev pub listed : {X : Type 0} → List X → List (List ℕ) → List X
listed items parts = picked items (flat parts)

-- Each item stands at one place, and in the order of the places the items are in order.
pub record IsIndex {T : Type 0} (items : List (Entry T)) (parts : List (List ℕ)) : Type 0 where
  pub all : IsPermutation (range_with_len 0 (length items)) (flat parts)
  pub ordered : IsOrdered (listed items parts)

-- ---- the room

-- Room for so many more items, of which each takes at most one block; they and those there are fewer than 2^32.
pub record HasRoom (room len capacity spare : ℕ) : Type 0 where
  pub few : len + room < 2 ^ 32
  pub items : len + room ≤ capacity
  pub blocks : room ≤ spare
