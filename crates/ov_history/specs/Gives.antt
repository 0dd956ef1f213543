-- The entry that an actor gives for what it is asked to do, or none: as a function, which does not cite when an entry may follow.
use Rattle.std.proofs.Common.{zero, suc}
use Rattle.std.specs.Prelude.{ℕ, ◌+◌, ◌^◌, min, max, Bool, false, not, ◌&&◌, ◌==◌, nat_le, nat_lt, Option, Some, None, List, [], ◌∷◌, ◌++◌, slice_get, if◌then◌else◌}
use Rattle.std.specs.List.{list_all}
use Rattle.std.specs.Option.{option_map}
use Rattle.ov_base.specs.Version.{number, time_of}
use Rattle.ov_base.specs.Word.{◌>>=◌}
use Rattle.ov_functor.specs.Execution.{reply_of}
use Rattle.ov_functor.specs.declared.command.Command.{Command}
use Rattle.ov_functor.specs.declared.command.Command.TheVariants as commands
use Rattle.ov_functor.specs.declared.reply.Reply.{Reply}
use Rattle.ov_functor.specs.declared.reply.Reply.TheVariants.{Snap}
use Rattle.ov_gossip.specs.declared.marks.Marks.{Marks}
use Rattle.ov_topology.specs.Shape.{Shape, gates}
use Rattle.ov_topology.specs.declared.actor.Actor.{Actor}
use Rattle.ov_topology.specs.declared.actor.Actor.TheVariants.{Gate, Node, Settler}
use Rattle.ov_topology.specs.declared.mode.Mode.{Mode}
use Rattle.ov_topology.specs.declared.mode.Mode.TheVariants.{Quorum, One}
use Rattle.ov_topology.specs.declared.place.Place.{Place}
use Rattle.ov_session.specs.Events.{begun, replied, known, floor}
use Rattle.ov_session.specs.declared.after.After.{After}
use Rattle.ov_session.specs.declared.planned.Planned.{Planned}
use Rattle.ov_session.specs.declared.plan.SessionPlan.{SessionPlan}
use Rattle.ov_event.specs.Letters.{is_in, is_for}
use Rattle.ov_event.specs.declared.entry.Entry.{Entry}
use Rattle.ov_event.specs.declared.kind.Kind.{Kind}
use Rattle.ov_event.specs.declared.kind.Kind.TheVariants as kinds
use Rattle.ov_event.specs.declared.letter.Letter.{Letter}
use Rattle.ov_event.specs.declared.letter.Letter.TheVariants as letters
use Rattle.ov_event.specs.declared.start.Start.{Start}
use Rattle.ov_event.specs.declared.start.Start.TheVariants.{Draw, Look}
use Rattle.ov_history.specs.Past.{History, stopped}
use Rattle.ov_history.specs.Letters.{letter}
use Rattle.ov_history.specs.Counts.{all_below, weight}
use Rattle.ov_history.specs.Draws.{last}
use Rattle.ov_history.specs.Marks.{marks, top_time, own_marks}
use Rattle.ov_history.specs.Sessions.{events_of}
use Rattle.ov_history.specs.Nodes.{answer}
use Rattle.ov_history.specs.Settlers.{Round, open_round, rounds, settled, took, plan_values, known_below, shown}
use Rattle.ov_history.specs.May.{Setting, upper}

-- What an actor is asked to do: to begin a session's next command at a reading of its clock, to take the letter at a place, to
-- publish at a reading of its clock, to ask for a round, to settle it, or to stop.
pub data Act : Type 0 where
  Begin : (session clock : ℕ) → Act
  Take : (place : Place) → Act
  Publish : (clock : ℕ) → Act
  Ask : (mode : Mode) → Act
  Settle : Act
  Stop : Act

-- ---- clocks

-- the greatest reading of a clock that counts
abbrev pub clock_end : ℕ
clock_end = 2 ^ 46

-- a time, where it has a version
abbrev pub timed : ℕ → Option ℕ
timed time = if nat_lt time (2 ^ 47) then Some time else None

-- the time of a reading: not below the least that is allowed
abbrev pub time_at : ℕ → ℕ → ℕ
time_at clock least = max (min clock clock_end) least

-- ---- what gateways give

-- whether the gateway knows the command that is waited for as replied
abbrev pub is_known : ℕ → History → After → Bool
is_known g h after = nat_le after.seq (known after.session (events_of g h))

-- the next command of a session of the gateway, where it may begin
abbrev pub ready : Setting → History → ℕ → ℕ → Option Planned
ready t h g s = do
  plan ← slice_get t.roster.sessions s
  planned ← (if (plan.gate == g) && (begun s (events_of g h) == replied s (events_of g h)) then slice_get plan.planned (begun s (events_of g h)) else None)
  if list_all (is_known g h) planned.after then Some planned else None

-- how the command starts: a transaction draws a version, and a snapshot has its session's floor
abbrev pub start_of : History → ℕ → ℕ → ℕ → Command → Option Start
start_of h g s clock (commands.Transact parts) = timed (time_at clock (last g h + 1)) >>= λ time. Some (Draw (number time g) parts)
start_of h g s clock (commands.Snap keys) = Some (Look (floor s (events_of g h)) keys)

abbrev pub begins : Setting → History → ℕ → ℕ → ℕ → Option Kind
begins t h g s clock = do
  planned ← ready t h g s
  start ← start_of h g s clock planned.command
  Some (kinds.Began s (begun s (events_of g h) + 1) start)

-- the marks of the first gateways that the gateway knows, with its own at its place
abbrev pub vector_to : Shape → ℕ → ℕ → History → ℕ → List Marks
vector_to t g time h zero = []
vector_to t g time h (suc k) = vector_to t g time h k ++ (if k == g then own_marks t g time h else marks (Gate g) k h) ∷ []

abbrev pub publishes : Shape → History → ℕ → ℕ → Option Kind
publishes t h g clock = timed (time_at clock (max (last g h + 1) (top_time (Gate g) (gates t) h))) >>= λ time. Some (kinds.Published time (vector_to t g time h (gates t)))

-- whether the session is one of the gateway
abbrev pub is_own : ℕ → Option SessionPlan → Bool
is_own g None = false
is_own g (Some plan) = plan.gate == g

-- whether the command of a session of the gateway is begun and not replied
abbrev pub is_open : Setting → History → ℕ → ℕ → ℕ → Bool
is_open t h g s c = is_own g (slice_get t.roster.sessions s) && ((begun s (events_of g h) == c) && (replied s (events_of g h) + 1 == c))

abbrev pub gate_takes : Setting → History → ℕ → Place → Letter → Option Kind
gate_takes t h g place (letters.Ack version c p) = Some (kinds.Acked place version c p)
gate_takes t h g place (letters.Gossip sender vector) = Some (kinds.Heard place vector)
gate_takes t h g place (letters.Result s c gate reply) = if is_open t h g s c then Some (kinds.Replied place s c reply) else None
gate_takes t h g place (letters.Told s c sender) = Some (kinds.Told place s c)
gate_takes t h g place other = None

-- ---- what nodes give

abbrev pub node_takes : History → ℕ → ℕ → Place → Letter → Option Kind
node_takes h c p place (letters.Write version part items) = Some (kinds.Stored place version items)
node_takes h c p place (letters.Ask settler round mode from below) = Some (kinds.Answered place settler round (answer c p from below h))
node_takes h c p place other = None

-- ---- what settlers give

abbrev pub asks : Shape → History → ℕ → Mode → Option Kind
asks t h s mode =
    if nat_lt (rounds s h + 1) (2 ^ 64) && nat_lt (settled s h) (upper t s h mode)
    then Some (kinds.Asked (rounds s h + 1) mode (settled s h) (upper t s h mode)) else None

-- whether a partition gave answers enough to a round
abbrev pub is_enough : Shape → ℕ → Round → History → Mode → ℕ → Bool
is_enough t s round h Quorum p = nat_le t.read (weight t (λ c. took s round.number c p h))
is_enough t s round h One p = took s round.number s p h

abbrev pub settles : Shape → History → ℕ → Option Kind
settles t h s = open_round s h >>= λ round.
    if all_below (is_enough t s round h round.mode) t.partitions then Some (kinds.Settled (plan_values s round h)) else None

abbrev pub is_current : Option Round → ℕ → Bool
is_current None round = false
is_current (Some current) round = current.number == round

-- the reply that the settler can compute
abbrev pub reply_to : History → ℕ → Start → Option Reply
reply_to h s (Draw version transaction) = if nat_lt version (settled s h) then Some (reply_of (known_below s h version) version transaction) else None
reply_to h s (Look least keys) = if nat_le least (settled s h) then Some (Snap (settled s h) (shown (known_below s h (settled s h)) keys)) else None

abbrev pub settler_takes : History → ℕ → Place → Letter → Option Kind
settler_takes h s place (letters.Gossip sender vector) = Some (kinds.Heard place vector)
settler_takes h s place (letters.Answer settler round c p items) = if is_current (open_round s h) round then Some (kinds.Taken place round c p items) else None
settler_takes h s place (letters.Want session seq gate start) = reply_to h s start >>= λ reply. Some (kinds.Resulted place session seq gate reply)
settler_takes h s place other = None

-- ---- all actors

abbrev pub takes_as : Setting → History → Actor → Place → Letter → Option Kind
takes_as t h (Gate g) place sent = gate_takes t h g place sent
takes_as t h (Node c p) place sent = node_takes h c p place sent
takes_as t h (Settler s) place sent = settler_takes h s place sent

-- taking the letter at a place, where it is addressed to the actor
abbrev pub takes : Setting → History → Actor → Place → Option Kind
takes t h actor place = letter t.topology h place >>= λ sent. if is_for t.topology sent actor then takes_as t h actor place sent else None

abbrev pub gate_acts : Setting → History → ℕ → Act → Option Kind
gate_acts t h g (Begin s clock) = begins t h g s clock
gate_acts t h g (Publish clock) = publishes t.topology h g clock
gate_acts t h g other = None

abbrev pub settler_acts : Shape → History → ℕ → Act → Option Kind
settler_acts t h s (Ask mode) = asks t h s mode
settler_acts t h s Settle = settles t h s
settler_acts t h s other = None

abbrev pub own_acts : Setting → History → Actor → Act → Option Kind
own_acts t h (Gate g) act = gate_acts t h g act
own_acts t h (Node c p) act = None
own_acts t h (Settler s) act = settler_acts t.topology h s act

abbrev pub acts : Setting → History → Actor → Act → Option Kind
acts t h actor (Take place) = takes t h actor place
acts t h actor Stop = Some kinds.Stopped
acts t h actor other = own_acts t h actor other

-- the entry that the actor gives, where it is in the topology and has not stopped
abbrev pub gives : Setting → History → Actor → Act → Option Entry
gives t h actor act =
    if is_in t.topology actor && not (stopped actor h) then option_map (λ kind. record { actor = actor; kind = kind }) (acts t h actor act) else None

-- ---- the act to which an entry belongs

-- a reading of the clock at which a command starts so
abbrev pub clock_of : Start → ℕ
clock_of (Draw version transaction) = time_of version
clock_of (Look least keys) = 0

-- the act for which entries of this kind are given; one that has a place is given for taking the letter there
abbrev pub act_of : Kind → Act
act_of (kinds.Began s c start) = Begin s (clock_of start)
act_of (kinds.Stored place version items) = Take place
act_of (kinds.Acked place version c p) = Take place
act_of (kinds.Published time vector) = Publish time
act_of (kinds.Heard place vector) = Take place
act_of (kinds.Asked round mode from below) = Ask mode
act_of (kinds.Answered place settler round items) = Take place
act_of (kinds.Taken place round c p items) = Take place
act_of (kinds.Settled values) = Settle
act_of (kinds.Resulted place s c gate reply) = Take place
act_of (kinds.Replied place s c reply) = Take place
act_of (kinds.Told place s c) = Take place
act_of kinds.Stopped = Stop
