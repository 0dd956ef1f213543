-- What the calls of a settler core do to its state alone.
use Rattle.std.specs.Prelude.{◌≡◌, ℕ, ◌<◌, nat_lt, nat_le, false, Option, Some, None, List, [], ◌∷◌, if◌then◌else◌}
use Rattle.std.specs.Option.{option_map}
use Rattle.ov_base.specs.declared.value.Value.{Value}
use Rattle.ov_functor.specs.Execution.{Map, reply_of}
use Rattle.ov_functor.specs.declared.item.Item.{Item}
use Rattle.ov_functor.specs.declared.item.Valued.{Valued}
use Rattle.ov_functor.specs.declared.reply.Reply.{Reply}
use Rattle.ov_functor.specs.declared.reply.Reply.TheVariants.{Snap}
use Rattle.ov_gossip.specs.Marks.{least, low_of, full_of}
use Rattle.ov_gossip.specs.declared.marks.Marks.{Marks}
use Rattle.ov_topology.specs.declared.mode.Mode.{Mode}
use Rattle.ov_topology.specs.declared.mode.Mode.TheVariants.{Quorum, One}
use Rattle.ov_event.specs.declared.letter.Letter.{Letter}
use Rattle.ov_event.specs.declared.letter.Letter.TheVariants.{Gossip}
use Rattle.ov_event.specs.declared.start.Start.{Start}
use Rattle.ov_event.specs.declared.start.Start.TheVariants.{Draw, Look}
use Rattle.ov_lists.specs.Entries.{Entry, has_pair, inserted}
use Rattle.ov_window.specs.Harvest.{Gathered, IsWhole, has_answered, with_answer}
use Rattle.ov_window.specs.Plan.{map_below}
use Rattle.ov_window.specs.declared.plan.Task.{Task}
use Rattle.ov_history.specs.Settlers.{shown}
use Rattle.ov_settler.specs.Settler.{SettlerState}

-- ---- asking

-- up to where a round of this mode asks, by the marks of all gateways
abbrev pub upper_of : List Marks → Mode → ℕ
upper_of vector Quorum = least low_of vector
upper_of vector One = least full_of vector

-- ---- taking

-- An answer of the node to this round of the settler is one to the core's open round, and the node is in the topology.
pub record Awaits (s : SettlerState) (settler round centre part : ℕ) : Type 0 where
  pub harvest : Gathered
  pub open_is : s.harvest ≡ Some harvest
  pub own : settler ≡ s.centre
  pub current : round ≡ s.rounds
  pub centre_in : centre < s.topology.centres
  pub part_in : part < s.topology.partitions

-- the harvest after an answer of a node, of which the first alone counts
abbrev pub answered_by : ℕ → ℕ → List Item → Gathered → Gathered
answered_by centre part items harvest = if has_answered harvest centre part then harvest else with_answer harvest centre part items

-- the core after an answer of a node to its open round
abbrev pub gathered_by : ℕ → ℕ → List Item → SettlerState → SettlerState
gathered_by centre part items s = record s { harvest = option_map (answered_by centre part items) s.harvest }

-- ---- settling

-- The core's open round can be settled, up to this number: the settler runs, and its harvest is whole.
pub record Closes (s : SettlerState) (below : ℕ) : Type 0 where
  pub harvest : Gathered
  pub open_is : s.harvest ≡ Some harvest
  pub running : s.stopped ≡ false
  pub whole : IsWhole harvest
  pub below_is : below ≡ harvest.round.below

-- up to where the core's open round can be settled, or that it cannot
abbrev pub IsDue : SettlerState → Option ℕ → Type 0
IsDue s None = (below : ℕ) → Closes s below → ⊥
IsDue s (Some below) = Closes s below

-- the values of tasks, each at the version and key of its task
abbrev pub valued_tasks : List Task → List Value → List Valued
valued_tasks [] values = []
valued_tasks (task ∷ tasks) [] = []
valued_tasks (task ∷ tasks) (value ∷ values) = record { version = task.version; key = task.key; value = value } ∷ valued_tasks tasks values

-- the entry that version lists keep of a value
abbrev pub entry_of : Valued → Entry Value
entry_of value = record { key = value.key; version = value.version; item = value.value }

-- entries with a value, where there is none of its key and version
abbrev pub with_value : Valued → List (Entry Value) → List (Entry Value)
with_value value entries = if has_pair value.key value.version entries then entries else inserted (entry_of value) entries

-- entries with these values, the last one first
abbrev pub with_values : List Valued → List (Entry Value) → List (Entry Value)
with_values [] entries = entries
with_values (value ∷ values) entries = with_value value (with_values values entries)

-- the core after it settled its open round up to a number, with these values
abbrev pub settled_by : ℕ → List Valued → SettlerState → SettlerState
settled_by below values s = record s { settled = below; harvest = None; values = with_values values s.values }

-- ---- replies

-- What is settled, by key and then version, and a number.
pub record Below : Type 0 where
  pub below : ℕ
  pub values : List (Entry Value)

-- the map just below the number
abbrev pub map_of : Below → Map
map_of b = map_below b.below b.values

-- the reply that a core computes, where what it shows is settled: a transaction's on the values just below its version, and a
-- snapshot's on those just below the number up to which all is settled
abbrev pub reply_to : SettlerState → Start → Option Reply
reply_to s (Draw version transaction) = if nat_lt version s.settled then Some (reply_of (map_below version s.values) version transaction) else None
reply_to s (Look floor keys) = if nat_le floor s.settled then Some (Snap s.settled (shown (map_below s.settled s.values) keys)) else None

-- ---- what is tested of entries

-- A round of this number is open.
pub record IsOpen (s : SettlerState) (round : ℕ) : Type 0 where
  pub harvest : Gathered
  pub open_is : s.harvest ≡ Some harvest
  pub current : round ≡ s.rounds

-- a letter tells of these marks
abbrev pub IsTold : Option Letter → List Marks → Type 0
IsTold (Some (Gossip gate sent)) vector = sent ≡ vector
IsTold other vector = ⊥
