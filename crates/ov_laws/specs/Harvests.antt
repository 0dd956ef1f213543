-- Windows, what settlers gather of them, and lists of items by version and then key, each version and key once.
use Rattle.std.specs.Prelude.{◌≡◌, ℕ, ◌<◌, true, Some, List, ◌++◌, slice_get, ◌↔◌}
use Rattle.std.specs.List.{AllByRecursion}
use Rattle.ov_functor.specs.Windows.{Among}
use Rattle.ov_functor.specs.declared.item.Item.{Item}
use Rattle.ov_functor.specs.Unions.{IsSorted, is_inside}
use Rattle.ov_topology.specs.Shape.{Shape}
use Rattle.ov_history.specs.Past.{History}
use Rattle.ov_history.specs.Settlers.{Round, open_round, IsEnough, harvest}
use Rattle.ov_history.specs.May.{Setting, Lawful}
use Rattle.ov_history.specs.Serial.{InWindow}

-- ---- lists of items

-- no version and key stands at two places of the list
abbrev pub IsOnceEach : List Item → Type 0
IsOnceEach items = (i j : ℕ) (x y : Item) → slice_get items i ≡ Some x → slice_get items j ≡ Some y → x.version ≡ y.version → x.key ≡ y.key → i ≡ j

-- ---- windows

-- the list has exactly the items of the window
abbrev pub IsWindow : History → ℕ → ℕ → List Item → Type 0
IsWindow h from below items = (item : Item) → Among item items ↔ InWindow h from below item

-- The round is the settler's open one, and each partition gave answers enough to settle it.
pub record IsGathered (t : Setting) (h : History) (s : ℕ) (round : Round) : Type 0 where
  pub open_is : open_round s h ≡ Some round
  pub enough : (p : ℕ) → p < t.topology.partitions → IsEnough t.topology s round p h round.mode

-- what the settler gathered in the round is exactly the window that it asked for
abbrev pub HasWindow : History → ℕ → Round → Type 0
HasWindow h s round = IsWindow h round.from round.below (harvest s round.number h)

-- no other sorted list is that window
abbrev pub HasOnlyWindow : History → ℕ → Round → Type 0
HasOnlyWindow h s round = (items : List Item) → IsSorted items → IsWindow h round.from round.below items → items ≡ harvest s round.number h

-- whatever entries may follow, the window that the round asked for has the same items
abbrev pub WindowStays : Setting → History → Round → Type 0
WindowStays t h round = (more : History) → Lawful t (more ++ h) → (item : Item) → InWindow (more ++ h) round.from round.below item ↔ InWindow h round.from round.below item

-- ---- answers

-- What a settler may rely on in an answer to a round: the node is in the topology, and the items lie in the round's window.
pub record IsAnswerTo (t : Shape) (round : Round) (centre part : ℕ) (items : List Item) : Type 0 where
  pub centre_in : centre < t.centres
  pub part_in : part < t.partitions
  pub inside : AllByRecursion (λ (item : Item). is_inside round.from round.below item ≡ true) items
