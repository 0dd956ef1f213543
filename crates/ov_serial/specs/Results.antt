-- What the serial executor gives, in terms of the serial fold.
use Rattle.std.specs.Prelude.{ℕ, Bool, true, not, ◌&&◌, ◌==◌, suc, zero, nat_lt, ℤ, ◌^◌, List, [], ◌∷◌, ◌++◌, map, if◌then◌else◌}
use Rattle.std.specs.Borrow.{Bor}
use Rattle.std.specs.List.{list_any}
use Rattle.std.specs.BTreeMap.{BTreeMap}
use Rattle.ov_base.specs.Amount.{sum_of, difference_of}
use Rattle.ov_base.specs.Value.{or_zero}
use Rattle.ov_base.specs.declared.value.Value.TheVariants.{Absent, Number}
use Rattle.ov_functor.specs.declared.part.Part.{Part}
use Rattle.ov_functor.specs.declared.part.Part.TheVariants.{Put, Del, Add, Least, Greatest, Move as MovePart, Get}
use Rattle.ov_functor.specs.declared.item.Shown.{Shown}
use Rattle.ov_functor.specs.Execution.{Map, set, least_value, greatest_value}
use Rattle.ov_functor.specs.Kept.{map_by}
use Rattle.ov_functor.specs.Serial.{Begun}

-- a number above all versions
abbrev pub beyond : ℕ
beyond = 2 ^ 63

-- a version and its transaction
abbrev pub begun : ℕ × List Part → Begun
begun pair = record { version = pair.0; transaction = pair.1 }

-- the begun transactions of a list
abbrev pub begun_in : List (ℕ × List Part) → List Begun
begun_in list = map begun list

-- the begun transactions of a list of references
abbrev pub begun_by : List (Bor (ℕ × List Part)) → List Begun
begun_by list = map (λ one. begun one.now) list

-- whether the version stands in the list
abbrev pub has : ℕ → List Begun → Bool
has version list = list_any (λ other. other.version == version) list

-- whether no version stands twice
abbrev pub are_distinct : List Begun → Bool
are_distinct [] = true
are_distinct (one ∷ others) = not (has one.version others) && are_distinct others

-- the map that amounts of keys stand for: a key without one is absent
abbrev pub value_in : BTreeMap (List ℕ) ℤ → Map
value_in values = map_by Number values

-- the map with these values, the first set last
abbrev pub set_back : Map → List Shown → Map
set_back map [] = map
set_back map (one ∷ others) = set one.key one.value (set_back map others)

-- a key with this amount
abbrev pub number : List ℕ → ℤ → Shown
number key amount = record { key = key; value = Number amount }

-- what a part writes, from the old map, in reading order
abbrev pub writes_in : Map → Part → List Shown
writes_in old (Put key amount) = number key amount ∷ []
writes_in old (Del key) = record { key = key; value = Absent } ∷ []
writes_in old (Add key amount) = number key (sum_of (or_zero (old key)) amount) ∷ []
writes_in old (Least key amount) = number key (least_value (old key) amount) ∷ []
writes_in old (Greatest key amount) = number key (greatest_value (old key) amount) ∷ []
writes_in old (MovePart from to amount) = number from (difference_of (or_zero (old from)) amount) ∷ number to (sum_of (or_zero (old to)) amount) ∷ []
writes_in old (Get key) = []

-- what the parts write, from the old map, in reading order
abbrev pub writes_of : Map → List Part → List Shown
writes_of old [] = []
writes_of old (part ∷ others) = writes_in old part ++ writes_of old others

-- how many versions at the front of a list are above this one
abbrev pub place : ℕ → List Begun → ℕ
place version [] = zero
place version (next ∷ others) = if nat_lt version next.version then suc (place version others) else zero
