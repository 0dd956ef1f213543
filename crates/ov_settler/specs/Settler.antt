-- What a settler core is, which histories it stands for, and which entries its calls make.
use Rattle.std.specs.Prelude.{◌≡◌, ℕ, ◌<◌, Bool, true, false, Option, Some, None, List, length}
use Rattle.std.specs.List.{AllByRecursion}
use Rattle.std.specs.Option.{option_map}
use Rattle.ov_base.specs.declared.value.Value.{Value}
use Rattle.ov_functor.specs.Unions.{is_inside, union}
use Rattle.ov_functor.specs.Values.{latest}
use Rattle.ov_functor.specs.declared.item.Item.{Item}
use Rattle.ov_functor.specs.declared.item.Valued.{Valued}
use Rattle.ov_gossip.specs.Marks.{mark_at}
use Rattle.ov_gossip.specs.declared.marks.Marks.{Marks}
use Rattle.ov_topology.specs.Shape.{Shape, gates}
use Rattle.ov_topology.specs.declared.actor.Actor.{Actor}
use Rattle.ov_topology.specs.declared.actor.Actor.TheVariants.{Settler}
use Rattle.ov_lists.specs.Entries.{Entry, latest_of}
use Rattle.ov_event.specs.declared.kind.Kind.{Kind}
use Rattle.ov_event.specs.declared.kind.Kind.TheVariants as kinds
use Rattle.ov_event.specs.declared.letter.Letter.{Letter}
use Rattle.ov_event.specs.declared.letter.Letter.TheVariants as letters
use Rattle.ov_history.specs.Past.{History}
use Rattle.ov_history.specs.Marks.{marks}
use Rattle.ov_history.specs.Settlers as settlers
use Rattle.ov_history.specs.May.{Setting}
use Rattle.ov_history.specs.Cores.{Runs}
use Rattle.ov_window.specs.Evaluation.{values_of}
use Rattle.ov_window.specs.Harvest.{Gathered, IsMarked, IsWhole, has_answered}
use Rattle.ov_window.specs.Plan.{plan_over}
use Rattle.ov_window.specs.declared.plan.Task.{Task}

-- What contracts see of a settler core: the topology, which settler it is, the marks that it knows, how many rounds it has opened, how
-- far it has settled, the harvest of its open round, the values that it has settled, by key and then version, and whether it has
-- stopped.
pub record SettlerState : Type 0 where
  pub topology : Shape
  pub centre : ℕ
  pub vector : List Marks
  pub rounds : ℕ
  pub settled : ℕ
  pub harvest : Option Gathered
  pub values : List (Entry Value)
  pub stopped : Bool

-- the harvest of an open round is of the core's topology
abbrev pub IsCore : Shape → Option Gathered → Type 0
IsCore topology None = Unit {0}
IsCore topology (Some harvest) = harvest.topology ≡ topology

-- the round of a harvest, which is the last that was opened
abbrev pub round_of : ℕ → Gathered → settlers.Round
round_of rounds harvest = record { number = rounds; mode = harvest.round.mode; from = harvest.round.from; below = harvest.round.below }

-- the value that version lists keep at an entry
abbrev pub valued_of : Entry Value → Valued
valued_of entry = record { version = entry.version; key = entry.key; value = entry.item }

-- What a core gathered in its open round is what the settler took in it, the items lie in the window of the round, and the window,
-- which is not empty, begins where the settler has settled. Each node has its mark.
pub record Gathers (t : Shape) (h : History) (s : SettlerState) (harvest : Gathered) : Type 0 where
  pub topology_is : harvest.topology ≡ t
  pub settler_is : harvest.round.settler ≡ s.centre
  pub from_is : harvest.round.from ≡ s.settled
  pub some : harvest.round.from < harvest.round.below
  pub marked : IsMarked harvest.topology harvest.answered
  pub answers_are : (c p : ℕ) → c < t.centres → p < t.partitions → has_answered harvest c p ≡ settlers.took s.centre s.rounds c p h
  pub items_are : union harvest.items ≡ settlers.harvest s.centre s.rounds h
  pub inside : AllByRecursion (λ (item : Item). is_inside harvest.round.from harvest.round.below item ≡ true) harvest.items

-- The core stands for a history after which the actor is as the core has it. Besides: no answer of a later round is taken; and of the
-- values, the latest of each key below each number is that of all that the settler settled, and none is from the number on up to which
-- it has settled.
pub record IsSettler (t : Setting) (h : History) (actor : Actor) (s : SettlerState) : Type 0 where
  pub actor_is : actor ≡ Settler s.centre
  pub runs : Runs t h actor s.stopped
  pub topology_is : s.topology ≡ t.topology
  pub width : length s.vector ≡ gates t.topology
  pub marks_are : (k : ℕ) → k < gates t.topology → mark_at s.vector k ≡ marks (Settler s.centre) k h
  pub rounds_are : s.rounds ≡ settlers.rounds s.centre h
  pub settled_is : s.settled ≡ settlers.settled s.centre h
  pub round_is : option_map (round_of s.rounds) s.harvest ≡ settlers.open_round s.centre h
  pub gathers : (harvest : Gathered) → s.harvest ≡ Some harvest → Gathers t.topology h s harvest
  pub later : (n c p : ℕ) → s.rounds < n → settlers.took s.centre n c p h ≡ false
  pub values_are : (key : List ℕ) (below : ℕ) → latest key below (settlers.values_of s.centre h) ≡ option_map valued_of (latest_of key below s.values)
  pub under : AllByRecursion (λ (entry : Entry Value). entry.version < s.settled) s.values

-- ---- what the calls ask

-- What a settler may rely on in an answer to its open round, as is so in every lawful history: the node is in the topology, and the
-- items lie in the window of the round.
pub record IsAnswer (t : Shape) (harvest : Gathered) (centre part : ℕ) (items : List Item) : Type 0 where
  pub centre_in : centre < t.centres
  pub part_in : part < t.partitions
  pub inside : AllByRecursion (λ (item : Item). is_inside harvest.round.from harvest.round.below item ≡ true) items

-- an answer to the open round of the core is one on which a settler may rely
abbrev pub IsSound : SettlerState → Letter → Type 0
IsSound s (letters.Answer settler round centre part items) = settler ≡ s.centre → round ≡ s.rounds → (harvest : Gathered) → s.harvest ≡ Some harvest → IsAnswer s.topology harvest centre part items
IsSound s other = Unit {0}

-- where a round is open and its harvest is whole, the plan is that of the round, and the values are those of the plan
abbrev pub IsOwn : SettlerState → List Task → List Value → Type 0
IsOwn s plan values = (harvest : Gathered) → s.harvest ≡ Some harvest → IsWhole harvest → (plan ≡ plan_over s.values harvest) × (values ≡ values_of plan)

-- ---- the kinds of entries that the calls make

-- whether an entry of this kind is one that `heard` makes
abbrev pub is_heard : Kind → Bool
is_heard (kinds.Heard place vector) = true
is_heard other = false

-- whether an entry of this kind is one that `ask` makes
abbrev pub is_asked : Kind → Bool
is_asked (kinds.Asked round mode from below) = true
is_asked other = false

-- whether an entry of this kind is one that `take` makes
abbrev pub is_taken : Kind → Bool
is_taken (kinds.Taken place round centre part items) = true
is_taken other = false

-- whether an entry of this kind is one that `settle` makes
abbrev pub is_settled : Kind → Bool
is_settled (kinds.Settled values) = true
is_settled other = false

-- whether an entry of this kind is one that `result` makes
abbrev pub is_resulted : Kind → Bool
is_resulted (kinds.Resulted place session seq gate reply) = true
is_resulted other = false
