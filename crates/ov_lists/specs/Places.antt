-- Where a key and number stand among entries in order.
use Rattle.std.specs.Prelude.{◌≡◌, ℕ, ◌<◌, ◌≤◌, true, false, List, length, slice_index_or}
use Rattle.ov_lists.specs.Entries.{Entry, is_before, is_inside}

-- the entries before a place stand before a key and number
abbrev pub AreBefore : {T : Type 0} → List ℕ → ℕ → List (Entry T) → ℕ → Type 0
AreBefore {T} key number entries place = (k : ℕ) (d : Entry T) → k < place → is_before (slice_index_or entries k d).key (slice_index_or entries k d).version key number ≡ true

-- the entries from a place on do not
abbrev pub AreBehind : {T : Type 0} → List ℕ → ℕ → List (Entry T) → ℕ → Type 0
AreBehind {T} key number entries place = (k : ℕ) (d : Entry T) → place ≤ k → k < length entries → is_before (slice_index_or entries k d).key (slice_index_or entries k d).version key number ≡ false

-- The entries before a place stand before a key and number, and those from it on do not.
pub record IsPlace {T : Type 0} (key : List ℕ) (number : ℕ) (entries : List (Entry T)) (place : ℕ) : Type 0 where
  pub within : place ≤ length entries
  pub before : AreBefore key number entries place
  pub behind : AreBehind key number entries place

-- no entry from one place on and before another lies in the window
abbrev pub AreOutside : {T : Type 0} → ℕ → ℕ → List (Entry T) → ℕ → ℕ → Type 0
AreOutside {T} from below entries place next = (k : ℕ) (d : Entry T) → place ≤ k → k < next → is_inside from below (slice_index_or entries k d) ≡ false

-- A later place, and no entry from the one on and before the other lies in the window.
pub record Passes {T : Type 0} (from below : ℕ) (entries : List (Entry T)) (place next : ℕ) : Type 0 where
  pub onward : place < next
  pub within : next ≤ length entries
  pub outside : AreOutside from below entries place next
