-- What the calls of a core say. A core is the running state of one actor, and holds no history: it stands for each history after
-- which its actor is as the core has it, and what a call says holds of every one of these.
use Rattle.std.specs.Prelude.{◌≡◌, ℕ, ◌<◌, ◌≤◌, Bool, true, Option, Some, None, ◌∷◌, length, if◌then◌else◌}
use Rattle.ov_base.specs.Version.{time_of, gate_of}
use Rattle.ov_topology.specs.Shape.{Shape, IsShape}
use Rattle.ov_topology.specs.declared.actor.Actor.{Actor}
use Rattle.ov_event.specs.Letters.{is_in}
use Rattle.ov_event.specs.declared.entry.Entry.{Entry}
use Rattle.ov_event.specs.declared.kind.Kind.{Kind}
use Rattle.ov_event.specs.declared.letter.Letter.{Letter}
use Rattle.ov_event.specs.declared.letter.Letter.TheVariants as letters
use Rattle.ov_history.specs.Past.{History, stopped}
use Rattle.ov_history.specs.Letters.{letter}
use Rattle.ov_history.specs.Draws.{last}
use Rattle.ov_history.specs.May.{Setting, May, MayBy}
use Rattle.ov_history.specs.Gives.{Act, Take, gives, act_of}

-- the entry that was given, where it is of a kind that passes
abbrev pub kept : (Kind → Bool) → Option Entry → Option Entry
kept f None = None
kept f (Some e) = if f e.kind then Some e else None

-- the history with the entry that was given, where one was
abbrev pub onto : Option Entry → History → History
onto None h = h
onto (Some e) h = e ∷ h

-- the history's letter that an act takes, where it takes one and the history has it
abbrev pub letter_for : Shape → History → Act → Option Letter
letter_for t h (Take place) = letter t h place
letter_for t h other = None

-- What a gateway may rely on in a letter that it takes, as holds of every letter of a lawful history: the version of an
-- acknowledgement to it has a time that is not after its last one, since it drew that version; and a session of which is told is one
-- of the roster.
abbrev pub IsSound : Setting → History → ℕ → Letter → Type 0
IsSound t h g (letters.Ack version centre part) = gate_of version ≡ g → time_of version ≤ last g h
IsSound t h g (letters.Told session seq sender) = session < length t.roster.sessions
IsSound t h g other = Unit {0}

-- What each core stands for in part: its actor is in the topology, and has stopped where the core has it so.
pub record Runs (t : Setting) (h : History) (actor : Actor) (has_stopped : Bool) : Type 0 where
  pub shape : IsShape t.topology
  pub known : is_in t.topology actor ≡ true
  pub stopped_is : has_stopped ≡ stopped actor h

-- What a call of a core for an act says of one history that the core stood for. `Stands` is what it is to stand for a history after
-- which the actor is as the core has it, `f` tests the kinds of entries that the call makes, and `new` is the core after the call.
pub record Steps {S : Type 0} (Stands : Setting → History → Actor → S → Type 0) (f : Kind → Bool) (t : Setting) (h : History) (actor : Actor) (act : Act) (answer : Option Entry) (new : S) : Type 0 where
  -- the call returns what the actor gives for the act, where that is of such a kind
  pub given : answer ≡ kept f (gives t h actor act)
  -- the core then stands for the history with that entry
  pub stands : Stands t (onto answer h) actor new
  -- the entry may follow, and it is the actor's
  pub may : (e : Entry) → answer ≡ Some e → MayBy t h actor e
  -- what may follow for that act is what it returns: where that is none, nothing may
  pub all : (kind : Kind) → f kind ≡ true → act_of kind ≡ act → May t h (record { actor = actor; kind = kind }) → answer ≡ Some (record { actor = actor; kind = kind })
