-- The letters table: which letters an entry makes, in the order of their numbers, and to whom each is addressed.
use Rattle.std.specs.Prelude.{◌≡◌, ℕ, zero, suc, ◌+◌, ◌-◌, Bool, true, false, not, ◌&&◌, ◌==◌, List, [], ◌∷◌, ◌++◌, map, get_or, slice_get, Option, Some, None, is_some, if◌then◌else◌}
use Rattle.std.specs.Cmp.Lexicographic.{slice_cmp}
use Rattle.std.specs.List.{insert, list_any}
use Rattle.std.specs.Ordering.{is_lt, nat_cmp}
use Rattle.ov_base.specs.Version.{gate_of}
use Rattle.ov_functor.specs.Items.{items_of, keys_in}
use Rattle.ov_functor.specs.declared.item.Item.{Item}
use Rattle.ov_functor.specs.declared.part.Part.{Part}
use Rattle.ov_topology.specs.Shape.{Shape, place_of}
use Rattle.ov_topology.specs.Numbers.{number_of}
use Rattle.ov_topology.specs.declared.actor.Actor.{Actor}
use Rattle.ov_topology.specs.declared.actor.Actor.TheVariants.{Gate, Node, Settler}
use Rattle.ov_topology.specs.declared.mode.Mode.{Mode}
use Rattle.ov_topology.specs.declared.mode.Mode.TheVariants.{Quorum, One}
use Rattle.ov_event.specs.declared.entry.Entry.{Entry}
use Rattle.ov_event.specs.declared.kind.Kind.{Kind}
use Rattle.ov_event.specs.declared.kind.Kind.TheVariants as kinds
use Rattle.ov_event.specs.declared.letter.Letter.{Letter}
use Rattle.ov_event.specs.declared.letter.Letter.TheVariants as letters
use Rattle.ov_event.specs.declared.start.Start.{Start}
use Rattle.ov_event.specs.declared.start.Start.TheVariants as starts

-- ---- the writes of a transaction

-- whether a key stands before another
abbrev pub is_before : List ℕ → List ℕ → Bool
is_before key other = is_lt (slice_cmp nat_cmp key other)

-- how many items at the front have keys that stand before the key
abbrev pub place_in : List ℕ → List Item → ℕ
place_in key [] = 0
place_in key (item ∷ items) = if is_before item.key key then place_in key items + 1 else 0

-- items in the order of their keys, with one more at its place
abbrev pub placed : Item → List Item → List Item
placed item items = insert items (place_in item.key items) item

-- items in the order of their keys, with these placed among them one after another
abbrev pub placed_all : List Item → List Item → List Item
placed_all front [] = front
placed_all front (item ∷ items) = placed_all (placed item front) items

-- items in the order of their keys
abbrev pub by_key : List Item → List Item
by_key items = placed_all [] items

-- the items in one partition
abbrev pub items_in : Shape → ℕ → List Item → List Item
items_in t part [] = []
items_in t part (item ∷ items) = if place_of t item.key == part then item ∷ items_in t part items else items_in t part items

-- the `Write` letter of a partition: the items of the transaction there, by key
abbrev pub write_of : Shape → ℕ → List Part → ℕ → Letter
write_of t version transaction part = letters.Write version part (by_key (items_in t part (items_of version transaction)))

abbrev pub is_kept : Shape → ℕ → List ℕ → Bool
is_kept t part key = place_of t key == part

-- whether a part of a transaction writes a key of the partition
abbrev pub part_touches : Shape → ℕ → Part → Bool
part_touches t part one = list_any (is_kept t part) (keys_in one)

-- whether a transaction writes a key of the partition
abbrev pub touches : Shape → List Part → ℕ → Bool
touches t transaction part = list_any (part_touches t part) transaction

-- the partitions below a number that a transaction touches, upwards
abbrev pub touched_below : Shape → List Part → ℕ → List ℕ
touched_below t transaction zero = []
touched_below t transaction (suc part) = touched_below t transaction part ++ (if touches t transaction part then part ∷ [] else [])

-- the partitions that a transaction touches, upwards
abbrev pub touched : Shape → List Part → List ℕ
touched t transaction = touched_below t transaction t.partitions

-- ---- the letters of an entry

abbrev pub start_writes : Shape → Start → List Letter
start_writes t (starts.Draw version transaction) = map (write_of t version transaction) (touched t transaction)
start_writes t (starts.Look floor keys) = []

abbrev pub gate_writes : Shape → Kind → List Letter
gate_writes t (kinds.Began session seq begun) = start_writes t begun
gate_writes t other = []

-- the `Write` letters that a gateway makes where it begins a transaction, one for each partition that is touched, upwards
abbrev pub writes_of : Shape → Actor → Kind → List Letter
writes_of t (Gate gate) did = gate_writes t did
writes_of t (Node centre part) did = []
writes_of t (Settler centre) did = []

abbrev pub gate_letter : ℕ → Kind → Option Letter
gate_letter gate (kinds.Began session seq begun) = Some (letters.Want session seq gate begun)
gate_letter gate (kinds.Published time vector) = Some (letters.Gossip gate vector)
gate_letter gate (kinds.Replied place session seq reply) = Some (letters.Told session seq gate)
gate_letter gate other = None

abbrev pub node_letter : ℕ → ℕ → Kind → Option Letter
node_letter centre part (kinds.Stored place version items) = Some (letters.Ack version centre part)
node_letter centre part (kinds.Answered place settler round items) = Some (letters.Answer settler round centre part items)
node_letter centre part other = None

abbrev pub settler_letter : ℕ → Kind → Option Letter
settler_letter settler (kinds.Asked round mode from below) = Some (letters.Ask settler round mode from below)
settler_letter settler (kinds.Resulted place session seq gate reply) = Some (letters.Result session seq gate reply)
settler_letter settler other = None

-- the one letter of an entry that is no `Write`
abbrev pub last_of : Actor → Kind → Option Letter
last_of (Gate gate) did = gate_letter gate did
last_of (Node centre part) did = node_letter centre part did
last_of (Settler settler) did = settler_letter settler did

abbrev pub listed : Option Letter → List Letter
listed None = []
listed (Some sent) = sent ∷ []

-- the letters of an entry: its writes, and then its other letter
abbrev pub letters_of : Shape → Entry → List Letter
letters_of t entry = writes_of t entry.actor entry.kind ++ listed (last_of entry.actor entry.kind)

-- the letter of a number, from 1
abbrev pub letter_in : Shape → Entry → ℕ → Option Letter
letter_in t entry number = if number == 0 then None else slice_get (letters_of t entry) (number - 1)

-- ---- the addressees

-- whether the topology has the actor
abbrev pub is_in : Shape → Actor → Bool
is_in t actor = is_some (number_of t actor)

-- whether the actor is this gateway
abbrev pub is_gate : ℕ → Actor → Bool
is_gate gate (Gate other) = other == gate
is_gate gate other = false

-- whether the actor is another gateway
abbrev pub is_other_gate : ℕ → Actor → Bool
is_other_gate gate (Gate other) = not (other == gate)
is_other_gate gate other = false

-- whether the actor is a node of this partition
abbrev pub is_node_of : ℕ → Actor → Bool
is_node_of part (Node centre other) = other == part
is_node_of part other = false

-- whether the actor is the settler of this centre
abbrev pub is_settler : ℕ → Actor → Bool
is_settler centre (Settler other) = other == centre
is_settler centre other = false

-- whether the actor hears the gossip of this gateway
abbrev pub hears : ℕ → Actor → Bool
hears sender (Gate gate) = not (gate == sender)
hears sender (Settler centre) = true
hears sender (Node centre part) = false

-- whether the actor is asked in such a round of this settler
abbrev pub is_asked : ℕ → Mode → Actor → Bool
is_asked settler Quorum (Node centre part) = true
is_asked settler One (Node centre part) = centre == settler
is_asked settler mode other = false

-- the actors to whom a letter is addressed: of a write all nodes of its partition; of a wanted reply the settler of the
-- gateway's centre; of an acknowledgement the gateway that the version names; of a gossip all other gateways and all settlers;
-- of a question all nodes, or those of the settler's centre; of an answer its settler; of a result its gateway; of a reply told
-- on all other gateways
abbrev pub is_for : Shape → Letter → Actor → Bool
is_for t (letters.Write version part items) actor = is_node_of part actor
is_for t (letters.Want session seq gate begun) actor = is_settler (get_or t.gateways gate 0) actor
is_for t (letters.Ack version centre part) actor = is_gate (gate_of version) actor
is_for t (letters.Gossip sender vector) actor = hears sender actor
is_for t (letters.Ask settler round mode from below) actor = is_asked settler mode actor
is_for t (letters.Answer settler round centre part items) actor = is_settler settler actor
is_for t (letters.Result session seq gate reply) actor = is_gate gate actor
is_for t (letters.Told session seq sender) actor = is_other_gate sender actor

abbrev pub is_for_some : Shape → Option Letter → Actor → Bool
is_for_some t None actor = false
is_for_some t (Some sent) actor = is_for t sent actor

-- whether a letter of an entry is addressed to an actor of the topology
abbrev pub is_addressed : Shape → Entry → ℕ → Actor → Bool
is_addressed t entry number actor = is_in t actor && is_for_some t (letter_in t entry number) actor

-- ---- the entries that an actor may make

abbrev pub is_gate_kind : Kind → Bool
is_gate_kind (kinds.Began session seq begun) = true
is_gate_kind (kinds.Acked place version centre part) = true
is_gate_kind (kinds.Published time vector) = true
is_gate_kind (kinds.Heard place vector) = true
is_gate_kind (kinds.Replied place session seq reply) = true
is_gate_kind (kinds.Told place session seq) = true
is_gate_kind kinds.Stopped = true
is_gate_kind other = false

abbrev pub is_node_kind : Kind → Bool
is_node_kind (kinds.Stored place version items) = true
is_node_kind (kinds.Answered place settler round items) = true
is_node_kind kinds.Stopped = true
is_node_kind other = false

abbrev pub is_settler_kind : Kind → Bool
is_settler_kind (kinds.Heard place vector) = true
is_settler_kind (kinds.Asked round mode from below) = true
is_settler_kind (kinds.Taken place round centre part items) = true
is_settler_kind (kinds.Settled values) = true
is_settler_kind (kinds.Resulted place session seq gate reply) = true
is_settler_kind kinds.Stopped = true
is_settler_kind other = false

abbrev pub is_of_sort : Actor → Kind → Bool
is_of_sort (Gate gate) did = is_gate_kind did
is_of_sort (Node centre part) did = is_node_kind did
is_of_sort (Settler centre) did = is_settler_kind did

-- The entry's actor is in the topology, and of the sort of its kind.
pub record IsOf (t : Shape) (entry : Entry) : Type 0 where
  pub known : is_in t entry.actor ≡ true
  pub sort : is_of_sort entry.actor entry.kind ≡ true
