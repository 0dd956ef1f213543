-- What links tell of their nodes, and what a node may answer.
use Rattle.std.specs.Prelude.{◌≡◌, ℕ, ◌+◌, ◌-◌, ◌^◌, ◌≤◌, ◌<◌, min, true, Option, Some, None, List}
use Rattle.std.specs.List.{AllByRecursion, filter}
use Rattle.ov_functor.specs.Unions.{is_inside}
use Rattle.ov_functor.specs.Windows.{Among}
use Rattle.ov_functor.specs.declared.item.Item.{Item}
use Rattle.ov_topology.specs.Shape.{Shape}
use Rattle.ov_window.specs.declared.round.Round.{Round}

-- the items of a round's window, in their order
abbrev pub in_window : Round → List Item → List Item
in_window round items = filter (is_inside round.from round.below) items

-- all these items lie in the round's window
abbrev pub AreInside : Round → List Item → Type 0
AreInside round items = AllByRecursion (λ (item : Item). is_inside round.from round.below item ≡ true) items

-- each of the first is among the second
abbrev pub AreAmong : List Item → List Item → Type 0
AreAmong items others = (item : Item) → Among item items → Among item others

-- two items of one version and key are equal
abbrev pub AreAlike : List Item → Type 0
AreAlike items = (one other : Item) → Among one items → Among other items → one.version ≡ other.version → one.key ≡ other.key → one ≡ other

-- the answer is what the node holds of the round's window, where that is told
abbrev pub IsTold : Option (List Item) → Round → List Item → Type 0
IsTold None round items = Unit {0}
IsTold (Some held) round items = items ≡ in_window round held

-- it is told what each node of the topology holds
abbrev pub TellsAll : Shape → (ℕ → ℕ → Option (List Item)) → Type 0
TellsAll t told = (c p : ℕ) → c < t.centres → p < t.partitions → (held : List Item) × (told c p ≡ Some held)

-- what is told of each node stays
abbrev pub SameTold : (ℕ → ℕ → Option (List Item)) → (ℕ → ℕ → Option (List Item)) → Type 0
SameTold before now = (c p : ℕ) → now c p ≡ before c p

-- the count has risen, or stands at its end
abbrev pub Rose : ℕ → ℕ → Type 0
Rose before now = min (before + 1) (2 ^ 64 - 1) ≤ now

-- no count of any node has fallen
abbrev pub NoneFell : (ℕ → ℕ → ℕ) → (ℕ → ℕ → ℕ) → Type 0
NoneFell before now = (c p : ℕ) → before c p ≤ now c p
