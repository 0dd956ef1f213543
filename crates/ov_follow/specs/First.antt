-- The first example: one centre, one partition, one gateway, and a session that puts a value and then gets it.
use Rattle.std.specs.Prelude.{List, [], ◌∷◌, pos}
use Rattle.ov_base.specs.Version.{number}
use Rattle.ov_base.specs.declared.value.Value.TheVariants.{Number}
use Rattle.ov_functor.specs.declared.command.Command.TheVariants as commands
use Rattle.ov_functor.specs.declared.effect.Effect.TheVariants as effects
use Rattle.ov_functor.specs.declared.part.Part.{Part}
use Rattle.ov_functor.specs.declared.part.Part.TheVariants as parts
use Rattle.ov_functor.specs.declared.reply.Reply.TheVariants.{Done}
use Rattle.ov_topology.specs.declared.actor.Actor.TheVariants.{Gate, Node, Settler}
use Rattle.ov_topology.specs.declared.mode.Mode.TheVariants.{Quorum}
use Rattle.ov_event.specs.declared.kind.Kind.TheVariants.{Began, Stored, Acked, Published, Heard, Asked, Answered, Taken, Settled, Resulted, Replied}
use Rattle.ov_event.specs.declared.start.Start.TheVariants.{Draw}
use Rattle.ov_history.specs.Past.{History}
use Rattle.ov_history.specs.May.{Setting}

-- put x 5
abbrev pub put_x : List Part
put_x = parts.Put (120 ∷ []) (pos 5) ∷ []

-- get x
abbrev pub get_x : List Part
get_x = parts.Get (120 ∷ []) ∷ []

-- the topology, and the roster of the one session
abbrev pub setting : Setting
setting = record {
  topology = record { centres = 1; partitions = 1; gateways = 0 ∷ []; write = 1; read = 1 };
  roster = record {
    sessions = record {
      name = 97 ∷ [];
      gate = 0;
      planned = record { command = commands.Transact put_x; after = [] } ∷ record { command = commands.Transact get_x; after = [] } ∷ [];
    } ∷ [];
  };
}

-- the journal, the newest entry first
abbrev pub journal : History
journal =
    record { actor = Gate 0; kind = Replied (record { entry = 23; letter = 1 }) 0 2 (Done (number 2 0) (record { key = 120 ∷ []; value = Number (pos 5) } ∷ [])) } ∷
    record { actor = Settler 0; kind = Resulted (record { entry = 14; letter = 1 }) 0 2 0 (Done (number 2 0) (record { key = 120 ∷ []; value = Number (pos 5) } ∷ [])) } ∷
    record { actor = Settler 0; kind = Settled [] } ∷
    record { actor = Settler 0; kind = Taken (record { entry = 20; letter = 1 }) 2 0 0 [] } ∷
    record { actor = Node 0 0; kind = Answered (record { entry = 19; letter = 1 }) 0 2 [] } ∷
    record { actor = Settler 0; kind = Asked 2 Quorum (number 2 0) (number 3 0) } ∷
    record { actor = Settler 0; kind = Heard (record { entry = 17; letter = 1 }) (record { low = number 3 0; full = number 3 0; done = number 2 0 } ∷ []) } ∷
    record { actor = Gate 0; kind = Published 3 (record { low = number 3 0; full = number 3 0; done = number 2 0 } ∷ []) } ∷
    record { actor = Settler 0; kind = Heard (record { entry = 15; letter = 1 }) (record { low = number 3 0; full = number 3 0; done = number 2 0 } ∷ []) } ∷
    record { actor = Gate 0; kind = Published 3 (record { low = number 3 0; full = number 3 0; done = number 2 0 } ∷ []) } ∷
    record { actor = Gate 0; kind = Began 0 2 (Draw (number 2 0) get_x) } ∷
    record { actor = Gate 0; kind = Replied (record { entry = 12; letter = 1 }) 0 1 (Done (number 1 0) []) } ∷
    record { actor = Settler 0; kind = Resulted (record { entry = 1; letter = 2 }) 0 1 0 (Done (number 1 0) []) } ∷
    record { actor = Settler 0; kind = Settled (record { version = number 1 0; key = 120 ∷ []; value = Number (pos 5) } ∷ []) } ∷
    record { actor = Settler 0; kind = Taken (record { entry = 9; letter = 1 }) 1 0 0 (record { version = number 1 0; key = 120 ∷ []; functor = record { key = 120 ∷ []; effect = effects.Put (pos 5); moves = [] } } ∷ []) } ∷
    record { actor = Node 0 0; kind = Answered (record { entry = 8; letter = 1 }) 0 1 (record { version = number 1 0; key = 120 ∷ []; functor = record { key = 120 ∷ []; effect = effects.Put (pos 5); moves = [] } } ∷ []) } ∷
    record { actor = Settler 0; kind = Asked 1 Quorum 0 (number 2 0) } ∷
    record { actor = Settler 0; kind = Heard (record { entry = 6; letter = 1 }) (record { low = number 2 0; full = number 2 0; done = number 1 0 } ∷ []) } ∷
    record { actor = Gate 0; kind = Published 2 (record { low = number 2 0; full = number 2 0; done = number 1 0 } ∷ []) } ∷
    record { actor = Settler 0; kind = Heard (record { entry = 4; letter = 1 }) (record { low = number 2 0; full = number 2 0; done = number 1 0 } ∷ []) } ∷
    record { actor = Gate 0; kind = Published 2 (record { low = number 2 0; full = number 2 0; done = number 1 0 } ∷ []) } ∷
    record { actor = Gate 0; kind = Acked (record { entry = 2; letter = 1 }) (number 1 0) 0 0 } ∷
    record { actor = Node 0 0; kind = Stored (record { entry = 1; letter = 1 }) (number 1 0) (record { version = number 1 0; key = 120 ∷ []; functor = record { key = 120 ∷ []; effect = effects.Put (pos 5); moves = [] } } ∷ []) } ∷
    record { actor = Gate 0; kind = Began 0 1 (Draw (number 1 0) put_x) } ∷
    []
