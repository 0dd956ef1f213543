-- The topologies, sessions and words of the examples.
use Rattle.std.specs.Prelude.{◌==◌, ℕ, ◌+◌, List, [], ◌∷◌, ◌++◌, length, if◌then◌else◌, Bool, false, ℤ, pos}
use lib.IntN.{neg_ℤ}
use Rattle.ov_base.specs.declared.value.Value.{Value}
use Rattle.ov_functor.specs.declared.command.Command.TheVariants as commands
use Rattle.ov_functor.specs.declared.part.Part.{Part}
use Rattle.ov_functor.specs.declared.reply.Reply.{Reply}
use Rattle.ov_functor.specs.declared.item.Shown.{Shown}
use Rattle.ov_gossip.specs.declared.marks.Marks.{Marks}
use Rattle.ov_topology.specs.Shape.{Shape}
use Rattle.ov_topology.specs.declared.place.Place.{Place}
use Rattle.ov_session.specs.declared.after.After.{After}
use Rattle.ov_session.specs.declared.plan.SessionPlan.{SessionPlan}
use Rattle.ov_session.specs.declared.planned.Planned.{Planned}
use Rattle.ov_script.specs.declared.step.Step.{Step}
use Rattle.ov_event.specs.declared.kind.Kind.{Kind}
use Rattle.ov_event.specs.declared.kind.Kind.TheVariants as kinds
use Rattle.ov_event.specs.declared.start.Start.TheVariants.{Look}
use Rattle.ov_history.specs.Past.{History}
use Rattle.ov_history.specs.May.{Setting}
use Rattle.ov_follow.specs.Lines.{follow}

-- ---- topologies

-- one centre, one partition, one gateway
abbrev pub one_gateway : Shape
one_gateway = record { centres = 1; partitions = 1; gateways = 0 ∷ []; write = 1; read = 1 }

-- one centre, one partition, two gateways
abbrev pub two_gateways : Shape
two_gateways = record { centres = 1; partitions = 1; gateways = 0 ∷ 0 ∷ []; write = 1; read = 1 }

-- three centres, one partition, one gateway; two copies are written and two are read
abbrev pub three_centres : Shape
three_centres = record { centres = 3; partitions = 1; gateways = 0 ∷ []; write = 2; read = 2 }

-- three centres with a gateway each, four partitions; two copies are written and two are read
abbrev pub four_partitions : Shape
four_partitions = record { centres = 3; partitions = 4; gateways = 0 ∷ 1 ∷ 2 ∷ []; write = 2; read = 2 }

-- two centres with a gateway each, one partition; two copies are written and one is read
abbrev pub two_centres : Shape
two_centres = record { centres = 2; partitions = 1; gateways = 0 ∷ 1 ∷ []; write = 2; read = 1 }

-- ---- sessions

-- a session of a gateway
abbrev pub session : List ℕ → ℕ → List Planned → SessionPlan
session name gate planned = record { name = name; gate = gate; planned = planned }

-- a command that is a transaction, and waits for none
abbrev pub does : List Part → Planned
does parts = record { command = commands.Transact parts; after = [] }

-- a command that is a snapshot, and waits for none
abbrev pub snaps : List (List ℕ) → Planned
snaps keys = record { command = commands.Snap keys; after = [] }

-- the first command of a session
abbrev pub first_of : ℕ → After
first_of s = record { session = s; seq = 1 }

-- a transaction that waits for commands
abbrev pub waits : List After → List Part → Planned
waits after parts = record { command = commands.Transact parts; after = after }

-- the topology, and the roster of these sessions
abbrev pub world : Shape → List SessionPlan → Setting
world topology sessions = record { topology = topology; roster = record { sessions = sessions } }

-- ---- what is looked at

-- a negative amount
abbrev pub minus : ℕ → ℤ
minus n = neg_ℤ (pos n)

-- the letter of an entry
abbrev pub letter : ℕ → ℕ → Place
letter entry number = record { entry = entry; letter = number }

-- the marks of one gateway
abbrev pub triple : ℕ → ℕ → ℕ → Marks
triple low full done = record { low = low; full = full; done = done }

-- a key with the value that a reply shows
abbrev pub with : List ℕ → Value → Shown
with key value = record { key = key; value = value }

-- for each line of a schedule the number of the entry that it gives, and 0 where it gives none
abbrev pub numbers : Setting → History → List Step → List ℕ
numbers t h [] = []
numbers t h (step ∷ schedule) = (if length (follow t h step) == length h then 0 else length h + 1) ∷ numbers t (follow t h step) schedule

-- A reply to a command of a session.
pub record Told : Type 0 where
  pub session : ℕ
  pub seq : ℕ
  pub reply : Reply

abbrev pub told_in : Kind → List Told
told_in (kinds.Replied place session seq reply) = record { session = session; seq = seq; reply = reply } ∷ []
told_in other = []

-- the replies of a history, the oldest first
abbrev pub told : History → List Told
told [] = []
told (e ∷ h) = told h ++ told_in e.kind

-- the reply to a command
abbrev pub to : ℕ → ℕ → Reply → Told
to session seq reply = record { session = session; seq = seq; reply = reply }

-- whether an entry begins a snapshot with this floor
abbrev pub begins_at : ℕ → Kind → Bool
begins_at floor (kinds.Began session seq (Look least keys)) = least == floor
begins_at floor other = false
