-- The line of an entry: its words in groups, between which the word `;` stands, and the entries that have a line.
use Rattle.std.specs.Prelude.{◌≡◌, ℕ, ◌<◌, ◌≤◌, ◌^◌, false, List, [], ◌∷◌, ◌++◌, map, length, codes}
use Rattle.std.specs.List.{AllByRecursion}
use Rattle.std.specs.Fmt.{decimal}
use Rattle.ov_base.specs.Groups.{groups_text}
use Rattle.ov_base.specs.Key.{IsKey, repeats}
use Rattle.ov_base.specs.Value.{IsValue, value_text}
use Rattle.ov_base.specs.Version.{IsVersion, version_text}
use Rattle.ov_event.specs.ItemWords.{item_words, IsItem}
use Rattle.ov_event.specs.declared.entry.Entry.{Entry}
use Rattle.ov_event.specs.declared.kind.Kind.{Kind}
use Rattle.ov_event.specs.declared.kind.Kind.TheVariants.{Began, Stored, Acked, Published, Heard, Asked, Answered, Taken, Settled, Resulted, Replied, Told, Stopped}
use Rattle.ov_event.specs.declared.start.Start.{Start}
use Rattle.ov_event.specs.declared.start.Start.TheVariants.{Draw, Look}
use Rattle.ov_functor.specs.ReplyWords.{reply_words, IsReply}
use Rattle.ov_functor.specs.Transaction.{IsTransaction}
use Rattle.ov_functor.specs.Words.{part_words, IsParts}
use Rattle.ov_functor.specs.declared.item.Valued.{Valued}
use Rattle.ov_functor.specs.declared.part.Part.{Part}
use Rattle.ov_gossip.specs.Marks.{IsVector}
use Rattle.ov_gossip.specs.declared.marks.Marks.{Marks}
use Rattle.ov_topology.specs.Actor.{IsActor, IsGate, IsSettler, actor_text, gate_text, node_text, settler_text}
use Rattle.ov_topology.specs.Mode.{mode_text}
use Rattle.ov_topology.specs.Place.{IsPlace}
use Rattle.ov_topology.specs.declared.actor.Actor.{Actor}
use Rattle.ov_topology.specs.declared.actor.Actor.TheVariants.{Gate, Node, Settler}
use Rattle.ov_topology.specs.declared.place.Place.{Place}

-- ---- the words of an entry

-- the words of one gateway's marks: low, full and done
abbrev pub marks_words : Marks → List (List ℕ)
marks_words marks = version_text marks.low ∷ version_text marks.full ∷ version_text marks.done ∷ []

-- the words of a settled value
abbrev pub valued_words : Valued → List (List ℕ)
valued_words valued = version_text valued.version ∷ valued.key ∷ value_text valued.value ∷ []

-- the two words of a place, and words behind them
abbrev pub placed : Place → List (List ℕ) → List (List ℕ)
placed place words = decimal place.entry ∷ decimal place.letter ∷ words

-- the number of a session and that of its command, and words behind them
abbrev pub commanded : ℕ → ℕ → List (List ℕ) → List (List ℕ)
commanded session seq words = decimal session ∷ decimal seq ∷ words

-- the parts of a transaction: the first in the group of the words in front of it, each other in one of its own
abbrev pub parts_groups : List (List ℕ) → List Part → List (List (List ℕ))
parts_groups front [] = front ∷ []
parts_groups front (part ∷ parts) = (front ++ part_words part) ∷ map part_words parts

-- the groups of a beginning, behind the words of its actor and its kind
abbrev pub began_groups : List ℕ → ℕ → ℕ → Start → List (List (List ℕ))
began_groups actor session seq (Draw version transaction) = parts_groups (actor ∷ codes "began" ∷ commanded session seq (codes "do" ∷ version_text version ∷ [])) transaction
began_groups actor session seq (Look floor keys) = (actor ∷ codes "began" ∷ commanded session seq (codes "snap" ∷ version_text floor ∷ keys)) ∷ []

-- the groups of what an actor of this word did
abbrev pub kind_groups : List ℕ → Kind → List (List (List ℕ))
kind_groups actor (Began session seq start) = began_groups actor session seq start
kind_groups actor (Stored place version items) = (actor ∷ codes "stored" ∷ placed place (version_text version ∷ [])) ∷ map item_words items
kind_groups actor (Acked place version centre part) = (actor ∷ codes "acked" ∷ placed place (version_text version ∷ node_text centre part ∷ [])) ∷ []
kind_groups actor (Published time vector) = (actor ∷ codes "published" ∷ decimal time ∷ []) ∷ map marks_words vector
kind_groups actor (Heard place vector) = (actor ∷ codes "heard" ∷ placed place []) ∷ map marks_words vector
kind_groups actor (Asked round mode from below) = (actor ∷ codes "asked" ∷ decimal round ∷ mode_text mode ∷ version_text from ∷ version_text below ∷ []) ∷ []
kind_groups actor (Answered place settler round items) = (actor ∷ codes "answered" ∷ placed place (settler_text settler ∷ decimal round ∷ [])) ∷ map item_words items
kind_groups actor (Taken place round centre part items) = (actor ∷ codes "taken" ∷ placed place (decimal round ∷ node_text centre part ∷ [])) ∷ map item_words items
kind_groups actor (Settled values) = (actor ∷ codes "settled" ∷ []) ∷ map valued_words values
kind_groups actor (Resulted place session seq gate reply) = (actor ∷ codes "resulted" ∷ placed place (commanded session seq (gate_text gate ∷ reply_words reply))) ∷ []
kind_groups actor (Replied place session seq reply) = (actor ∷ codes "replied" ∷ placed place (commanded session seq (reply_words reply))) ∷ []
kind_groups actor (Told place session seq) = (actor ∷ codes "told" ∷ placed place (commanded session seq [])) ∷ []
kind_groups actor Stopped = (actor ∷ codes "stopped" ∷ []) ∷ []

-- the groups of an entry
abbrev pub entry_groups : Entry → List (List (List ℕ))
entry_groups entry = kind_groups (actor_text entry.actor) entry.kind

-- the line of an entry, without its line feed
abbrev pub entry_text : Entry → List ℕ
entry_text entry = groups_text (entry_groups entry)

-- ---- the entries that have a line

-- the most sessions of a script
abbrev pub most_sessions : ℕ
most_sessions = 64

-- the most commands of a script
abbrev pub most_commands : ℕ
most_commands = 4000

-- the most keys of a snapshot
abbrev pub most_keys : ℕ
most_keys = 8

-- The numbers of a session and of one of its commands are in their ranges.
pub record IsCommand (session seq : ℕ) : Type 0 where
  pub held : session < most_sessions
  pub some : 1 ≤ seq
  pub few : seq ≤ most_commands

-- The number of a round is in its range.
pub record IsRound (round : ℕ) : Type 0 where
  pub some : 1 ≤ round
  pub held : round < 2 ^ 64

-- the centre and the partition have the word of a node
abbrev pub IsNodeAt : ℕ → ℕ → Type 0
IsNodeAt centre part = IsActor (Node centre part)

-- the marks of a gateway have words
abbrev pub IsMarks : Marks → Type 0
IsMarks marks = IsVersion marks.low × IsVersion marks.full × IsVersion marks.done

-- a vector of 1 to 8 gateways whose marks have words
abbrev pub IsSpelledVector : List Marks → Type 0
IsSpelledVector vector = IsVector vector × AllByRecursion IsMarks vector

-- a settled value has words
abbrev pub IsValued : Valued → Type 0
IsValued valued = IsVersion valued.version × IsKey valued.key × IsValue valued.value

-- 1 to 8 keys, no two of them equal
pub record IsKeys (keys : List (List ℕ)) : Type 0 where
  pub some : 1 ≤ length keys
  pub few : length keys ≤ most_keys
  pub each : AllByRecursion IsKey keys
  pub apart : repeats keys ≡ false

-- a beginning has words
abbrev pub IsStart : Start → Type 0
IsStart (Draw version transaction) = IsVersion version × IsParts transaction × IsTransaction transaction
IsStart (Look floor keys) = IsVersion floor × IsKeys keys

-- what a gateway did has words
abbrev pub IsOfGate : Kind → Type 0
IsOfGate (Began session seq start) = IsCommand session seq × IsStart start
IsOfGate (Acked place version centre part) = IsPlace place × IsVersion version × IsNodeAt centre part
IsOfGate (Published time vector) = (time < 2 ^ 47) × IsSpelledVector vector
IsOfGate (Heard place vector) = IsPlace place × IsSpelledVector vector
IsOfGate (Replied place session seq reply) = IsPlace place × IsCommand session seq × IsReply reply
IsOfGate (Told place session seq) = IsPlace place × IsCommand session seq
IsOfGate Stopped = Unit {0}
IsOfGate kind = ⊥

-- what a node did has words
abbrev pub IsOfNode : Kind → Type 0
IsOfNode (Stored place version items) = IsPlace place × IsVersion version × AllByRecursion IsItem items
IsOfNode (Answered place settler round items) = IsPlace place × IsSettler settler × IsRound round × AllByRecursion IsItem items
IsOfNode Stopped = Unit {0}
IsOfNode kind = ⊥

-- what a settler did has words
abbrev pub IsOfSettler : Kind → Type 0
IsOfSettler (Heard place vector) = IsPlace place × IsSpelledVector vector
IsOfSettler (Asked round mode from below) = IsRound round × IsVersion from × IsVersion below
IsOfSettler (Taken place round centre part items) = IsPlace place × IsRound round × IsNodeAt centre part × AllByRecursion IsItem items
IsOfSettler (Settled values) = AllByRecursion IsValued values
IsOfSettler (Resulted place session seq gate reply) = IsPlace place × IsCommand session seq × IsGate gate × IsReply reply
IsOfSettler Stopped = Unit {0}
IsOfSettler kind = ⊥

-- what an actor of this sort did has words
abbrev pub IsBy : Actor → Kind → Type 0
IsBy (Gate gate) kind = IsOfGate kind
IsBy (Node centre part) kind = IsOfNode kind
IsBy (Settler centre) kind = IsOfSettler kind

-- The entry has a line.
pub record HasLine (entry : Entry) : Type 0 where
  pub actor : IsActor entry.actor
  pub kind : IsBy entry.actor entry.kind
