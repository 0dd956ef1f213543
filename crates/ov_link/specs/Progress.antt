-- How a gathering stands after calls of its link.
use Rattle.std.specs.Prelude.{◌≡◌, ℕ, ◌+◌, ◌<◌, ◌≤◌, ◌↔◌, Bool, true, false, Option, List, ◌++◌}
use Rattle.std.specs.Option.{option_map}
use Rattle.ov_functor.specs.declared.item.Item.{Item}
use Rattle.ov_topology.specs.Shape.{Shape}
use Rattle.ov_topology.specs.declared.mode.Mode.{Mode}
use Rattle.ov_topology.specs.declared.mode.Mode.TheVariants.{Quorum, One}
use Rattle.ov_window.specs.Harvest.{Gathered, IsMarked, with_answer}
use Rattle.ov_window.specs.declared.round.Round.{Round}
use Rattle.ov_link.specs.Calls.{AreInTurn, HasEnough, WasAsked, answers_of, has_replied, was_asked}
use Rattle.ov_link.specs.Gathering.{HasCause, IsGathered, IsUnionOf}
use Rattle.ov_link.specs.Links.{AreAmong, AreInside, IsTold, NoneFell, Rose, SameTold, TellsAll}
use Rattle.ov_link.specs.declared.gather.HarvestError.{HarvestError}
use Rattle.ov_link.specs.declared.link.Call.{Call}

-- ---- links

-- What is seen of a link.
pub record Seen : Type 0 where
  pub told : ℕ → ℕ → Option (List Item)
  pub faults : ℕ → ℕ → ℕ
  pub book : List Item
  pub asked : Option (List Call)

abbrev pub seen_of : (ℕ → ℕ → Option (List Item)) → (ℕ → ℕ → ℕ) → List Item → Option (List Call) → Seen
seen_of told faults book asked = record { told = told; faults = faults; book = book; asked = asked }

-- What no call takes back: no count has fallen, the book has what it had, and what is told of each node stays.
pub record IsLater (before now : Seen) : Type 0 where
  pub later : NoneFell before.faults now.faults
  pub grows : AreAmong before.book now.book
  pub same : SameTold before.told now.told

-- ---- one call

-- what a call that answered adds, or that one that failed was counted and adds nothing
abbrev pub Brings : Round → ℕ → ℕ → Seen → Seen → Gathered → Gathered → Bool → Type 0
Brings round centre part before now g new true =
    (items : List Item) × (new ≡ with_answer g centre part items) × IsTold (before.told centre part) round items × AreInside round items × AreAmong items now.book
Brings round centre part before now g new false = (new ≡ g) × Rose (before.faults centre part) (now.faults centre part)

-- The node was asked, and has answered or failed.
pub record IsCall (round : Round) (centre part : ℕ) (before now : Seen) (g new : Gathered) (answered : Bool) : Type 0 where
  pub noted : WasAsked centre part answered before.asked now.asked
  pub brings : Brings round centre part before now g new answered

-- ---- gatherings

-- The gathering, which began where the link was seen so, stands so after these calls: a node that was asked and gave no answer has failed.
pub record Stands (t : Shape) (round : Round) (start now : Seen) (g : Gathered) (calls : List Call) : Type 0 where
  pub topology_is : g.topology ≡ t
  pub round_is : g.round ≡ round
  pub marked : IsMarked t g.answered
  pub behind : now.asked ≡ option_map (λ old. old ++ calls) start.asked
  pub in_turn : AreInTurn t round calls
  pub gathered : IsGathered g calls
  pub inside : AreInside round g.items
  pub booked : AreAmong g.items now.book
  pub union : TellsAll t start.told → IsUnionOf start.told g
  pub failed : (c p : ℕ) → was_asked c p calls ≡ true → has_replied c p calls ≡ false → Rose (start.faults c p) (now.faults c p)
  pub since : IsLater start now

-- the centres whose nodes the round asks go from one up to and without another
abbrev pub IsSpanOf : Shape → Round → Mode → ℕ → ℕ → Type 0
IsSpanOf t round Quorum first end = (first ≡ 0) × (end ≡ t.centres)
IsSpanOf t round One first end = (first ≡ round.settler) × (end ≡ round.settler + 1)

-- The centres whose nodes the round asks go from one up to and without another, and are in the topology.
pub record IsSpan (t : Shape) (round : Round) (first end : ℕ) : Type 0 where
  pub span : IsSpanOf t round round.mode first end
  pub some : first < end
  pub within : end ≤ t.centres

-- The gathering has come to a node of the partition: the partitions before it gave enough, of its own nodes those from the first centre
-- on up to and without this one were asked, and none of the partitions behind it.
pub record IsAt (t : Shape) (round : Round) (first centre part : ℕ) (calls : List Call) : Type 0 where
  pub earlier : (p : ℕ) → p < part → HasEnough t round p calls
  pub here : (c : ℕ) → was_asked c part calls ≡ true ↔ ((first ≤ c) × (c < centre))
  pub later : (c p : ℕ) → part < p → was_asked c p calls ≡ false

-- After some calls the gathering has come to this node, and so many nodes of its partition have answered.
pub record HasCome (t : Shape) (round : Round) (start now : Seen) (g : Gathered) (first centre part answers : ℕ) : Type 0 where
  pub calls : List Call
  pub stands : Stands t round start now g calls
  pub at : IsAt t round first centre part calls
  pub count : answers ≡ answers_of t part calls

-- ---- one partition

-- wherever the gathering began, it goes on from the first node of the partition to this node
abbrev pub Advances : Shape → Round → Seen → Seen → Gathered → Gathered → ℕ → ℕ → ℕ → ℕ → ℕ → Type 0
Advances t round before now g new first part centre next answers =
    (start : Seen) → HasCome t round start before g first first part 0 → HasCome t round start now new first centre next answers

-- wherever the gathering began, the error at this partition has its cause
abbrev pub Stops : Shape → Round → Seen → Seen → Gathered → ℕ → ℕ → HarvestError → Type 0
Stops t round before now g first part error =
    (start : Seen) → HasCome t round start before g first first part 0 → HasCause t round start.faults now.faults start.asked now.asked error
