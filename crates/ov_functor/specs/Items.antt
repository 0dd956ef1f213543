-- The items of a transaction: its version, and the functor of each key that it writes.
use Rattle.std.specs.Prelude.{ℕ, List, [], ◌∷◌, ◌++◌, Option, Some, None}
use Rattle.ov_functor.specs.declared.item.Item.{Item}
use Rattle.ov_functor.specs.declared.item.Valued.{Valued}
use Rattle.ov_functor.specs.declared.part.Part.{Part}
use Rattle.ov_functor.specs.declared.part.Part.TheVariants.{Put, Del, Add, Least, Greatest, Move, Get}
use Rattle.ov_functor.specs.Execution.{Map, set}
use Rattle.ov_functor.specs.Functor.{functor_of}
use Rattle.ov_functor.specs.Placeholder.{Placeholder}

-- the keys that a part writes
abbrev pub keys_in : Part → List (List ℕ)
keys_in (Put key amount) = key ∷ []
keys_in (Del key) = key ∷ []
keys_in (Add key amount) = key ∷ []
keys_in (Least key amount) = key ∷ []
keys_in (Greatest key amount) = key ∷ []
keys_in (Move from to amount) = from ∷ to ∷ []
keys_in (Get key) = []

-- the keys that the parts write, in reading order
abbrev pub written_keys : List Part → List (List ℕ)
written_keys [] = []
written_keys (part ∷ others) = keys_in part ++ written_keys others

abbrev pub item_by : ℕ → List ℕ → Option Placeholder → List Item
item_by version key None = []
item_by version key (Some functor) = record { version = version; key = key; functor = functor } ∷ []

-- the items of a transaction for these keys
abbrev pub items_at : ℕ → List Part → List (List ℕ) → List Item
items_at version transaction [] = []
items_at version transaction (key ∷ keys) = item_by version key (functor_of transaction key) ++ items_at version transaction keys

-- the items of a transaction at its version, in reading order of the keys that it writes
abbrev pub items_of : ℕ → List Part → List Item
items_of version transaction = items_at version transaction (written_keys transaction)

-- the map with these values, one after another
abbrev pub set_all : Map → List Valued → Map
set_all map [] = map
set_all map (one ∷ others) = set_all (set one.key one.value map) others
