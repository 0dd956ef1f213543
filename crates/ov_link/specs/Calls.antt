-- The calls of a round: who is asked, and in which order.
use Rattle.std.specs.Prelude.{◌≡◌, ◌==◌, ◌≢◌, ℕ, ◌+◌, ◌<◌, ◌↔◌, Bool, true, false, not, ◌&&◌, ◌||◌, Option, List, [], ◌∷◌, ◌++◌, if◌then◌else◌}
use Rattle.std.specs.Option.{option_map}
use Rattle.ov_topology.specs.Shape.{Shape, marked}
use Rattle.ov_topology.specs.declared.mode.Mode.{Mode}
use Rattle.ov_topology.specs.declared.mode.Mode.TheVariants.{Quorum, One}
use Rattle.ov_history.specs.Counts.{passing}
use Rattle.ov_window.specs.Harvest.{IsEnough}
use Rattle.ov_window.specs.declared.round.Round.{Round}
use Rattle.ov_link.specs.declared.link.Call.{Call}

-- ---- calls

abbrev pub call_of : ℕ → ℕ → Bool → Call
call_of centre part answered = record { centre = centre; part = part; answered = answered }

-- one call more, of this node, where the calls are told
abbrev pub WasAsked : ℕ → ℕ → Bool → Option (List Call) → Option (List Call) → Type 0
WasAsked centre part answered before now = now ≡ option_map (λ calls. calls ++ call_of centre part answered ∷ []) before

-- whether the call is of this node
abbrev pub is_of : ℕ → ℕ → Call → Bool
is_of centre part call = (call.centre == centre) && (call.part == part)

-- whether the node was asked
abbrev pub was_asked : ℕ → ℕ → List Call → Bool
was_asked centre part [] = false
was_asked centre part (call ∷ calls) = is_of centre part call || was_asked centre part calls

-- whether the node has answered
abbrev pub has_replied : ℕ → ℕ → List Call → Bool
has_replied centre part [] = false
has_replied centre part (call ∷ calls) = (call.answered && is_of centre part call) || has_replied centre part calls

-- how many calls of the node have failed
abbrev pub failures : ℕ → ℕ → List Call → ℕ
failures centre part [] = 0
failures centre part (call ∷ calls) = (if not call.answered && is_of centre part call then 1 else 0) + failures centre part calls

-- ---- turns

-- for each centre, whether its node of the partition has answered
abbrev pub replied_in : Shape → ℕ → List Call → List Bool
replied_in t part calls = passing (λ centre. has_replied centre part calls) t.centres

-- how many nodes of the partition have answered
abbrev pub answers_of : Shape → ℕ → List Call → ℕ
answers_of t part calls = marked (replied_in t part calls)

-- the partition has given so many answers as the round needs
abbrev pub HasEnough : Shape → Round → ℕ → List Call → Type 0
HasEnough t round part calls = IsEnough t round.settler (replied_in t part calls) round.mode

-- the node is the next of its partition: all those of lower centres were asked, and no other; in a round of mode `one` it is the
-- settler's own, which was not asked
abbrev pub IsTurnOf : Round → Mode → ℕ → ℕ → List Call → Type 0
IsTurnOf round Quorum centre part before = (c : ℕ) → was_asked c part before ≡ true ↔ (c < centre)
IsTurnOf round One centre part before = (centre ≡ round.settler) × (was_asked centre part before ≡ false)

-- The call is the one that comes after these: of the next node of the first partition that has not given enough answers.
pub record IsNext (t : Shape) (round : Round) (before : List Call) (call : Call) : Type 0 where
  pub centre_in : call.centre < t.centres
  pub part_in : call.part < t.partitions
  pub earlier : (p : ℕ) → p < call.part → HasEnough t round p before
  pub needed : ¬ HasEnough t round call.part before
  pub turn : IsTurnOf round round.mode call.centre call.part before

-- each call is the one that comes after those before it
abbrev pub AreInTurn : Shape → Round → List Call → Type 0
AreInTurn t round calls = (before after : List Call) (call : Call) → calls ≡ before ++ call ∷ after → IsNext t round before call
