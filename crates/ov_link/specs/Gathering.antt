-- What comes of gathering a round over a link, and why it may fail.
use Rattle.std.specs.Prelude.{◌≡◌, ℕ, ◌+◌, ◌-◌, ◌^◌, ◌<◌, ◌≤◌, ◌↔◌, nat_le, min, Bool, true, Option, Some, List, ◌++◌}
use Rattle.std.specs.Option.{option_map}
use Rattle.ov_functor.specs.Windows.{Among}
use Rattle.ov_functor.specs.declared.item.Item.{Item}
use Rattle.ov_topology.specs.Shape.{Shape, marked}
use Rattle.ov_topology.specs.declared.mode.Mode.{Mode}
use Rattle.ov_topology.specs.declared.mode.Mode.TheVariants.{Quorum, One}
use Rattle.ov_history.specs.Counts.{passing}
use Rattle.ov_window.specs.Harvest.{Gathered, has_answered}
use Rattle.ov_window.specs.declared.round.Round.{Round}
use Rattle.ov_link.specs.Calls.{AreInTurn, HasEnough, answers_of, has_replied, was_asked}
use Rattle.ov_link.specs.Links.{Rose, in_window}
use Rattle.ov_link.specs.declared.gather.HarvestError.{HarvestError}
use Rattle.ov_link.specs.declared.gather.HarvestError.TheVariants.{Memory, NoQuorum}
use Rattle.ov_link.specs.declared.link.Call.{Call}

-- ---- what is gathered

-- A node that answered holds the item, which lies in the round's window.
pub record IsHeld (told : ℕ → ℕ → Option (List Item)) (g : Gathered) (item : Item) : Type 0 where
  pub centre : ℕ
  pub part : ℕ
  pub answered : has_answered g centre part ≡ true
  pub held : List Item
  pub held_is : told centre part ≡ Some held
  pub within : Among item (in_window g.round held)

-- the items of the harvest are exactly those that the nodes which answered hold in the round's window
abbrev pub IsUnionOf : (ℕ → ℕ → Option (List Item)) → Gathered → Type 0
IsUnionOf told g = (item : Item) → Among item g.items ↔ IsHeld told g item

-- ---- the calls that were made

-- The link was asked so: each call in its turn, and this holds of all of them.
pub record Made (t : Shape) (round : Round) (before now : Option (List Call)) (holds : List Call → Type 0) : Type 0 where
  pub calls : List Call
  pub behind : now ≡ option_map (λ old. old ++ calls) before
  pub in_turn : AreInTurn t round calls
  pub holds_of : holds calls

-- the nodes that answered these calls are those of the harvest
abbrev pub IsGathered : Gathered → List Call → Type 0
IsGathered g calls = (c p : ℕ) → has_answered g c p ≡ has_replied c p calls

-- ---- causes

-- whether the count has risen, or stands at its end
abbrev pub has_risen : ℕ → ℕ → Bool
has_risen before now = nat_le (min (before + 1) (2 ^ 64 - 1)) now

-- for each centre, whether the count of its node of the partition has risen
abbrev pub risen_in : Shape → ℕ → (ℕ → ℕ → ℕ) → (ℕ → ℕ → ℕ) → List Bool
risen_in t p before now = passing (λ c. has_risen (before c p) (now c p)) t.centres

-- so few answers are too few, and all nodes but those have failed; in a round of mode `one` the settler's own node has failed
abbrev pub HaveFailed : Shape → Round → Mode → ℕ → ℕ → (ℕ → ℕ → ℕ) → (ℕ → ℕ → ℕ) → Type 0
HaveFailed t round Quorum p answers before now = (answers < t.read) × (t.centres ≤ answers + marked (risen_in t p before now))
HaveFailed t round One p answers before now = (answers ≡ 0) × Rose (before round.settler p) (now round.settler p)

-- the node is one that the round asks
abbrev pub MayAsk : Shape → Round → Mode → ℕ → Type 0
MayAsk t round Quorum centre = centre < t.centres
MayAsk t round One centre = centre ≡ round.settler

-- The partition is the first that did not give enough answers, so many, though each of its nodes that the round asks was asked.
pub record IsShort (t : Shape) (round : Round) (p answers : ℕ) (calls : List Call) : Type 0 where
  pub earlier : (q : ℕ) → q < p → HasEnough t round q calls
  pub missed : ¬ HasEnough t round p calls
  pub count : answers ≡ answers_of t p calls
  pub all_asked : (centre : ℕ) → MayAsk t round round.mode centre → was_asked centre p calls ≡ true

-- the cause of an error: out of memory is free
abbrev pub HasCause : Shape → Round → (ℕ → ℕ → ℕ) → (ℕ → ℕ → ℕ) → Option (List Call) → Option (List Call) → HarvestError → Type 0
HasCause t round before now asked asked' Memory = Unit {0}
HasCause t round before now asked asked' (NoQuorum p answers) =
    (p < t.partitions) × HaveFailed t round round.mode p answers before now × Made t round asked asked' (IsShort t round p answers)
