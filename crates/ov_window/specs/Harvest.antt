-- What contracts see of a harvest, and when its answers are enough.
use Rattle.std.specs.Prelude.{◌≡◌, ℕ, ◌<◌, ◌≤◌, Bool, true, false, List, [], ◌++◌, get_or, length, replicate, slice_set}
use Rattle.std.specs.List.{flat_map}
use Rattle.ov_functor.specs.declared.item.Item.{Item}
use Rattle.ov_topology.specs.Shape.{Shape, votes_of}
use Rattle.ov_topology.specs.declared.mode.Mode.{Mode}
use Rattle.ov_topology.specs.declared.mode.Mode.TheVariants.{Quorum, One}
use Rattle.ov_window.specs.declared.round.Round.{Round}

-- the lists, one behind the other
abbrev pub joined : {X : Type 0} → List (List X) → List X
joined lists = flat_map (λ list. list) lists

-- What contracts see of a harvest: the topology, the round, for each partition a mark for each centre whose node has answered, and
-- the items of these answers, one answer behind the other.
pub record Gathered : Type 0 where
  pub topology : Shape
  pub round : Round
  pub answered : List (List Bool)
  pub items : List Item

-- Each partition has its marks, one for each centre.
pub record IsMarked (topology : Shape) (answered : List (List Bool)) : Type 0 where
  pub partitions : length answered ≡ topology.partitions
  pub centres : (part : ℕ) → part < topology.partitions → length (get_or answered part []) ≡ topology.centres

-- the harvest of a round that no node has answered
abbrev pub fresh : Shape → Round → Gathered
fresh topology round = record { topology = topology; round = round; answered = replicate topology.partitions (replicate topology.centres false); items = [] }

-- the marks of a partition
abbrev pub marks_of : Gathered → ℕ → List Bool
marks_of harvest part = get_or harvest.answered part []

-- whether the node has answered
abbrev pub has_answered : Gathered → ℕ → ℕ → Bool
has_answered harvest centre part = get_or (marks_of harvest part) centre false

-- the harvest with the answer of one more node
abbrev pub with_answer : Gathered → ℕ → ℕ → List Item → Gathered
with_answer harvest centre part items = record {
  topology = harvest.topology;
  round = harvest.round;
  answered = slice_set harvest.answered part (slice_set (marks_of harvest part) centre true);
  items = harvest.items ++ items;
}

-- these marks of a partition are enough: of a read quorum of centres, or in a round of mode `one` of the settler's own centre
abbrev pub IsEnough : Shape → ℕ → List Bool → Mode → Type 0
IsEnough topology settler marks Quorum = topology.read ≤ votes_of topology marks
IsEnough topology settler marks One = get_or marks settler false ≡ true

-- the partition gave answers enough
abbrev pub IsComplete : Gathered → ℕ → Type 0
IsComplete harvest part = IsEnough harvest.topology harvest.round.settler (marks_of harvest part) harvest.round.mode

-- each partition gave answers enough
abbrev pub IsWhole : Gathered → Type 0
IsWhole harvest = (part : ℕ) → part < harvest.topology.partitions → IsComplete harvest part
