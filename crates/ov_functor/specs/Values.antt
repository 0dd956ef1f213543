-- The values of items, each computed from the values just below its version.
use Rattle.std.specs.Prelude.{ℕ, nat_lt, ◌&&◌, Option, Some, None, List, [], ◌∷◌, map, if◌then◌else◌}
use Rattle.ov_base.specs.Key.{key_eq}
use Rattle.ov_base.specs.declared.value.Value.{Value}
use Rattle.ov_functor.specs.declared.item.Item.{Item}
use Rattle.ov_functor.specs.declared.item.Valued.{Valued}
use Rattle.ov_functor.specs.Execution.{Map, empty}
use Rattle.ov_functor.specs.Functor.{reads, apply}

-- ---- the values just below a number

-- of a value and one that was found before, the one of the greater version
abbrev pub later : Valued → Option Valued → Option Valued
later value None = Some value
later value (Some old) = if nat_lt value.version old.version then Some old else Some value

-- of the values of the key at versions below a number, the one of the greatest version
abbrev pub latest : List ℕ → ℕ → List Valued → Option Valued
latest key below [] = None
latest key below (value ∷ values) = if key_eq value.key key && nat_lt value.version below then later value (latest key below values) else latest key below values

-- the value that was found, or else this one
abbrev pub value_or : Value → Option Valued → Value
value_or other None = other
value_or other (Some value) = value.value

-- the map just below a number: these values, and an older map where they have none
abbrev pub upto : ℕ → Map → List Valued → Map
upto below base values key = value_or (base key) (latest key below values)

-- the map just below a number, of these values alone
abbrev pub just_below : ℕ → List Valued → Map
just_below below values = upto below empty values

-- ---- the values of items

-- the value of an item: that of its functor on this map
abbrev pub valued : Map → Item → Valued
valued old item = record { version = item.version; key = item.key; value = apply item.functor (map old (reads item.functor)) }

-- the values of items over an older map, newest first, each on the values just below its version
abbrev pub evaluated : Map → List Item → List Valued
evaluated base [] = []
evaluated base (item ∷ older) = valued (upto item.version base (evaluated base older)) item ∷ evaluated base older
