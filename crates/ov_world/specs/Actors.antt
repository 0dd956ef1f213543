-- The cores of a world, one for each actor: which histories they stand for, and what a call of one says.
use Rattle.std.specs.Prelude.{◌≡◌, ℕ, Option, Some, List, length, slice_get}
use Rattle.ov_topology.specs.Numbers.{actors, actor_at}
use Rattle.ov_topology.specs.declared.actor.Actor.{Actor}
use Rattle.ov_event.specs.declared.entry.Entry.{Entry}
use Rattle.ov_history.specs.Past.{History}
use Rattle.ov_history.specs.Gives.{Act, gives}
use Rattle.ov_history.specs.May.{Setting}
use Rattle.ov_history.specs.Cores.{onto}
use Rattle.ov_node.specs.Node.{IsNode}
use Rattle.ov_gate.specs.Gate.{IsGate}
use Rattle.ov_settler.specs.Settler.{IsSettler}
use Rattle.ov_world.specs.declared.actor_core.ActorCore.{ActorCore}
use Rattle.ov_world.specs.declared.actor_core.ActorCore.TheVariants.{Gate, Node, Settler}

-- the core stands for a history after which the actor is as the core has it
abbrev pub Stands : Setting → History → Actor → ActorCore → Type 0
Stands t h actor (Gate core) = IsGate t h actor core
Stands t h actor (Node core) = IsNode t h actor core
Stands t h actor (Settler core) = IsSettler t h actor core

-- What a call of a core for an act says of one history that the core stood for: it returns what the actor gives for the act, and the
-- core then stands for the history with that entry.
pub record Does {S : Type 0} (Is : Setting → History → Actor → S → Type 0) (t : Setting) (h : History) (actor : Actor) (act : Act) (answer : Option Entry) (new : S) : Type 0 where
  pub given : answer ≡ gives t h actor act
  pub stands : Is t (onto answer h) actor new

-- There is a core for each of so many actors, at the actor's number, and it stands for the history.
pub record StandUpTo (t : Setting) (h : History) (count : ℕ) (cores : List ActorCore) : Type 0 where
  pub all : length cores ≡ count
  pub each : (number : ℕ) (actor : Actor) (core : ActorCore) → actor_at t.topology number ≡ Some actor → slice_get cores number ≡ Some core → Stands t h actor core

-- there is a core for each actor, and it stands for the history
abbrev pub AllStand : Setting → History → List ActorCore → Type 0
AllStand t h cores = StandUpTo t h (actors t.topology) cores
