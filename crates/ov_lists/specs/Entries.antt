-- What contracts see of version lists: entries in the order of key and then version.
use Rattle.std.specs.Prelude.{◌≡◌, ℕ, ◌+◌, ◌≤◌, ◌==◌, Bool, true, false, not, ◌&&◌, ◌||◌, nat_le, nat_lt, List, [], ◌∷◌, Option, Some, None, if◌then◌else◌}
use Rattle.std.specs.Borrow.{Bor}
use Rattle.std.specs.Cmp.Lexicographic.{slice_cmp}
use Rattle.std.specs.List.{filter}
use Rattle.std.specs.declared.cmp.Ordering.{Ordering}
use Rattle.std.specs.Ordering.{nat_cmp, ordering_then, is_lt}
use Rattle.ov_base.specs.Key.{key_eq}

-- An entry: a key, the number of a version, and the item there.
pub record Entry (T : Type 0) : Type 0 where
  pub key : List ℕ
  pub version : ℕ
  pub item : T

-- What contracts see: the entries, and for how many more there is room.
pub record Contents (T : Type 0) : Type 0 where
  pub entries : List (Entry T)
  pub spare : ℕ

-- ---- the order

-- how a key and version compare with others: by key, and of one key by version
abbrev pub pair_cmp : List ℕ → ℕ → List ℕ → ℕ → Ordering
pair_cmp key version key' version' = ordering_then (slice_cmp nat_cmp key key') (nat_cmp version version')

-- whether a key and version stand before others
abbrev pub is_before : List ℕ → ℕ → List ℕ → ℕ → Bool
is_before key version key' version' = is_lt (pair_cmp key version key' version')

-- an element stands before the first of a list
abbrev pub IsBeforeFirst : {A : Type 0} → (A → A → Bool) → A → List A → Type 0
IsBeforeFirst before x [] = Unit {0}
IsBeforeFirst before x (y ∷ ys) = before x y ≡ true

-- each of a list stands before the next
abbrev pub Ascends : {A : Type 0} → (A → A → Bool) → List A → Type 0
Ascends before [] = Unit {0}
Ascends before (x ∷ xs) = IsBeforeFirst before x xs × Ascends before xs

-- a list in an order, with one more at its place
abbrev pub put : {A : Type 0} → (A → A → Bool) → A → List A → List A
put before new [] = new ∷ []
put before new (x ∷ xs) = if before x new then x ∷ put before new xs else new ∷ x ∷ xs

-- whether an entry stands before another by key, and of one key by version
abbrev pub stands_before : {T : Type 0} → Entry T → Entry T → Bool
stands_before e f = is_before e.key e.version f.key f.version

-- each entry stands before the next by key and version
abbrev pub IsOrdered : {T : Type 0} → List (Entry T) → Type 0
IsOrdered entries = Ascends stands_before entries

-- ---- one entry

-- whether an entry is of this key and version
abbrev pub is_at : {T : Type 0} → List ℕ → ℕ → Entry T → Bool
is_at key version e = key_eq e.key key && (e.version == version)

-- whether there is an entry of this key and version
abbrev pub has_pair : {T : Type 0} → List ℕ → ℕ → List (Entry T) → Bool
has_pair key version [] = false
has_pair key version (e ∷ es) = is_at key version e || has_pair key version es

-- the entries with one more, in the order
abbrev pub inserted : {T : Type 0} → Entry T → List (Entry T) → List (Entry T)
inserted new entries = put stands_before new entries

-- ---- the newest below a number

-- the one of the greater version, where there are two
abbrev pub newer : {T : Type 0} → Option (Entry T) → Option (Entry T) → Option (Entry T)
newer None other = other
newer (Some e) None = Some e
newer (Some e) (Some f) = if nat_lt e.version f.version then Some f else Some e

-- whether an entry is of this key and below the number
abbrev pub is_below : {T : Type 0} → List ℕ → ℕ → Entry T → Bool
is_below key below e = key_eq e.key key && nat_lt e.version below

-- the entry of the key with the greatest version below the number
abbrev pub latest_of : {T : Type 0} → List ℕ → ℕ → List (Entry T) → Option (Entry T)
latest_of key below [] = None
latest_of key below (e ∷ es) = newer (if is_below key below e then Some e else None) (latest_of key below es)

-- ---- a window

-- whether an entry lies in the window: from the one number on, and below the other
abbrev pub is_inside : {T : Type 0} → ℕ → ℕ → Entry T → Bool
is_inside from below e = nat_le from e.version && nat_lt e.version below

-- whether an entry stands before another by version, and of one version by key
abbrev pub is_earlier : {T : Type 0} → Entry T → Entry T → Bool
is_earlier e f = is_lt (ordering_then (nat_cmp e.version f.version) (slice_cmp nat_cmp e.key f.key))

-- the entries by version and then key
abbrev pub by_version : {T : Type 0} → List (Entry T) → List (Entry T)
by_version [] = []
by_version (e ∷ es) = put is_earlier e (by_version es)

-- the entries of a window, by version and then key
abbrev pub window_of : {T : Type 0} → ℕ → ℕ → List (Entry T) → List (Entry T)
window_of from below entries = by_version (filter (is_inside from below) entries)

-- the entry of a version, a key and the item that is referred to
abbrev pub shown : {T : Type 0} → ℕ × List ℕ × Bor T → Entry T
shown x = record { key = x.1; version = x.0; item = x.2.now }

-- ---- what the calls say

-- what an insertion leaves: a new entry takes at most one of the reserved places; one that is there already changes nothing
abbrev pub Inserts : {T : Type 0} → Contents T → Contents T → Entry T → Bool → Type 0
Inserts old new e true = (has_pair e.key e.version old.entries ≡ false) × ((new.entries ≡ inserted e old.entries) × (old.spare ≤ new.spare + 1))
Inserts old new e false = (has_pair e.key e.version old.entries ≡ true) × (new ≡ old)

-- ---- the next key

-- whether a key is at least another, or above it where that itself is passed
abbrev pub is_from : List ℕ → Bool → List ℕ → Bool
is_from from past key = if past then is_lt (slice_cmp nat_cmp from key) else not (is_lt (slice_cmp nat_cmp key from))

-- the key of the first entry whose key is at least another, or above it: of entries in order the least such key
abbrev pub next_key_of : {T : Type 0} → List ℕ → Bool → List (Entry T) → Option (List ℕ)
next_key_of from past [] = None
next_key_of from past (e ∷ es) = if is_from from past e.key then Some e.key else next_key_of from past es

-- ---- what stays of entries

-- whether an entry that may be there is of this version
abbrev pub is_version : {T : Type 0} → ℕ → Option (Entry T) → Bool
is_version version None = false
is_version version (Some e) = e.version == version

-- whether an entry stays: it is not below the number, or it is the newest of its key below it, where those are kept
abbrev pub is_kept : {T : Type 0} → ℕ → Bool → List (Entry T) → Entry T → Bool
is_kept below keep_last entries e = nat_le below e.version || (keep_last && is_version e.version (latest_of e.key below entries))

-- the entries that stay
abbrev pub thinned : {T : Type 0} → ℕ → Bool → List (Entry T) → List (Entry T)
thinned below keep_last entries = filter (is_kept below keep_last entries) entries
