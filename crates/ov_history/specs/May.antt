-- When an entry may follow a history, one record for each kind; and when a history is lawful.
use Rattle.std.specs.Prelude.{◌≡◌, ◌≢◌, ℕ, ◌+◌, ◌≤◌, ◌<◌, ◌^◌, max, true, false, Some, List, [], ◌∷◌, length, slice_get, ◌⊎◌}
use Rattle.ov_base.specs.Version.{time_of, gate_of}
use Rattle.ov_functor.specs.declared.command.Command.{Command}
use Rattle.ov_functor.specs.declared.command.Command.TheVariants as commands
use Rattle.ov_functor.specs.declared.item.Item.{Item}
use Rattle.ov_functor.specs.declared.item.Valued.{Valued}
use Rattle.ov_functor.specs.declared.reply.Reply.{Reply}
use Rattle.ov_topology.specs.Shape.{Shape, gates}
use Rattle.ov_topology.specs.declared.actor.Actor.{Actor}
use Rattle.ov_topology.specs.declared.actor.Actor.TheVariants.{Gate, Node, Settler}
use Rattle.ov_topology.specs.declared.mode.Mode.{Mode}
use Rattle.ov_topology.specs.declared.mode.Mode.TheVariants.{Quorum, One}
use Rattle.ov_topology.specs.declared.place.Place.{Place}
use Rattle.ov_session.specs.Events.{begun, replied, floor}
use Rattle.ov_session.specs.Standing.{MayBegin}
use Rattle.ov_session.specs.declared.plan.SessionPlan.{SessionPlan}
use Rattle.ov_session.specs.declared.roster.Roster.{Roster}
use Rattle.ov_gossip.specs.Marks.{mark_at}
use Rattle.ov_gossip.specs.declared.marks.Marks.{Marks}
use Rattle.ov_event.specs.Letters.{is_in}
use Rattle.ov_event.specs.declared.entry.Entry.{Entry}
use Rattle.ov_event.specs.declared.kind.Kind.{Kind}
use Rattle.ov_event.specs.declared.kind.Kind.TheVariants as kinds
use Rattle.ov_event.specs.declared.letter.Letter.TheVariants as letters
use Rattle.ov_event.specs.declared.start.Start.{Start}
use Rattle.ov_event.specs.declared.start.Start.TheVariants.{Draw, Look}
use Rattle.ov_history.specs.Past.{History, stopped}
use Rattle.ov_history.specs.Letters.{Takes}
use Rattle.ov_history.specs.Draws.{last}
use Rattle.ov_history.specs.Marks.{marks, visible, replicated, top_time, own_marks}
use Rattle.ov_history.specs.Sessions.{events_of}
use Rattle.ov_history.specs.Nodes.{answer}
use Rattle.ov_history.specs.Settlers.{Round, open_round, rounds, settled, IsEnough, plan_values, known_below, Shows}

-- What is fixed for one history: the topology and the roster of the sessions.
pub record Setting : Type 0 where
  pub topology : Shape
  pub roster : Roster

-- ---- gateways

-- A time is the least that is allowed, or within the range of clocks; and it has a version.
pub record IsTime (least time : ℕ) : Type 0 where
  pub later : least ≤ time
  pub held : time < 2 ^ 47
  pub clock : (time ≡ least) ⊎ (time ≤ 2 ^ 46)

-- A version that the gateway may draw: its own, and later than its last time.
pub record MayDraw (h : History) (g version : ℕ) : Type 0 where
  pub own : gate_of version ≡ g
  pub time : IsTime (last g h + 1) (time_of version)

-- a command starts as its kind does: a transaction draws a version, and a snapshot has its session's floor
abbrev pub StartsAs : History → ℕ → ℕ → Command → Start → Type 0
StartsAs h g s (commands.Transact parts) (Draw version transaction) = (transaction ≡ parts) × MayDraw h g version
StartsAs h g s (commands.Snap keys) (Look least shown) = (shown ≡ keys) × (least ≡ floor s (events_of g h))
StartsAs h g s command start = ⊥

-- The gateway may begin the command: the session is ready, and the start is that of the script's command.
pub record MayStart (t : Setting) (h : History) (g s c : ℕ) (start : Start) : Type 0 where
  pub ready : MayBegin t.roster g (events_of g h) s c
  pub starts : StartsAs h g s ready.planned.command start

-- The gateway may publish at this time: the vector is the known one, with its own marks.
pub record MayPublish (t : Shape) (h : History) (g time : ℕ) (vector : List Marks) : Type 0 where
  pub at : IsTime (max (last g h + 1) (top_time (Gate g) (gates t) h)) time
  pub width : length vector ≡ gates t
  pub others : (k : ℕ) → k < gates t → k ≢ g → mark_at vector k ≡ marks (Gate g) k h
  pub own : mark_at vector g ≡ own_marks t g time h

-- The actor may hear the vector: a gateway sent it.
pub record MayHear (t : Shape) (h : History) (place : Place) (actor : Actor) (vector : List Marks) : Type 0 where
  pub sender : ℕ
  pub sent : Takes t h place actor (letters.Gossip sender vector)

-- The gateway may reply: the result was sent to it, the session is its own, and the command is begun and not replied.
pub record MayReply (t : Setting) (h : History) (place : Place) (g s c : ℕ) (reply : Reply) : Type 0 where
  pub sent : Takes t.topology h place (Gate g) (letters.Result s c g reply)
  pub plan : SessionPlan
  pub session : slice_get t.roster.sessions s ≡ Some plan
  pub own : plan.gate ≡ g
  pub begun_is : c ≡ begun s (events_of g h)
  pub next : c ≡ replied s (events_of g h) + 1

-- The gateway may note that the command is replied elsewhere: another one told so.
pub record MayTell (t : Shape) (h : History) (place : Place) (g s c : ℕ) : Type 0 where
  pub sender : ℕ
  pub sent : Takes t h place (Gate g) (letters.Told s c sender)

-- ---- nodes

-- The node may answer: it was asked, and the items are all that it holds in the window.
pub record MayAnswer (t : Shape) (h : History) (place : Place) (c p settler round : ℕ) (items : List Item) : Type 0 where
  pub mode : Mode
  pub from : ℕ
  pub below : ℕ
  pub sent : Takes t h place (Node c p) (letters.Ask settler round mode from below)
  pub all : items ≡ answer c p from below h

-- ---- settlers

-- up to where a round of this mode asks: the visibility watermark, or the replica watermark
abbrev pub upper : Shape → ℕ → History → Mode → ℕ
upper t s h Quorum = visible t (Settler s) h
upper t s h One = replicated t (Settler s) h

-- The settler may open this round: the next one, from where it has settled up to its watermark, which is above.
pub record MayAsk (t : Shape) (h : History) (s round : ℕ) (mode : Mode) (from below : ℕ) : Type 0 where
  pub next : round ≡ rounds s h + 1
  pub held : round < 2 ^ 64
  pub from_is : from ≡ settled s h
  pub below_is : below ≡ upper t s h mode
  pub some : from < below

-- The settler may take the answer: the node sent it, to the open round.
pub record MayTake (t : Shape) (h : History) (place : Place) (s round c p : ℕ) (items : List Item) : Type 0 where
  pub sent : Takes t h place (Settler s) (letters.Answer s round c p items)
  pub current : Round
  pub current_is : open_round s h ≡ Some current
  pub same : round ≡ current.number

-- The settler may settle: its open round has answers enough, and the values are those of its plan.
pub record MaySettle (t : Shape) (h : History) (s : ℕ) (values : List Valued) : Type 0 where
  pub current : Round
  pub current_is : open_round s h ≡ Some current
  pub enough : (p : ℕ) → p < t.partitions → IsEnough t s current p h current.mode
  pub values_are : values ≡ plan_values s current h

-- The settler may compute the reply: it is wanted, and it shows the settler's values.
pub record MayResult (t : Shape) (h : History) (place : Place) (settler s c g : ℕ) (reply : Reply) : Type 0 where
  pub start : Start
  pub sent : Takes t h place (Settler settler) (letters.Want s c g start)
  pub shows : Shows (known_below settler h) (settled settler h) start reply

-- ---- all kinds

abbrev pub GateGuard : Setting → History → ℕ → Kind → Type 0
GateGuard t h g (kinds.Began s c start) = MayStart t h g s c start
GateGuard t h g (kinds.Acked place version c p) = Takes t.topology h place (Gate g) (letters.Ack version c p)
GateGuard t h g (kinds.Published time vector) = MayPublish t.topology h g time vector
GateGuard t h g (kinds.Heard place vector) = MayHear t.topology h place (Gate g) vector
GateGuard t h g (kinds.Replied place s c reply) = MayReply t h place g s c reply
GateGuard t h g (kinds.Told place s c) = MayTell t.topology h place g s c
GateGuard t h g kinds.Stopped = Unit {0}
GateGuard t h g other = ⊥

abbrev pub NodeGuard : Shape → History → ℕ → ℕ → Kind → Type 0
NodeGuard t h c p (kinds.Stored place version items) = Takes t h place (Node c p) (letters.Write version p items)
NodeGuard t h c p (kinds.Answered place settler round items) = MayAnswer t h place c p settler round items
NodeGuard t h c p kinds.Stopped = Unit {0}
NodeGuard t h c p other = ⊥

abbrev pub SettlerGuard : Shape → History → ℕ → Kind → Type 0
SettlerGuard t h s (kinds.Heard place vector) = MayHear t h place (Settler s) vector
SettlerGuard t h s (kinds.Asked round mode from below) = MayAsk t h s round mode from below
SettlerGuard t h s (kinds.Taken place round c p items) = MayTake t h place s round c p items
SettlerGuard t h s (kinds.Settled values) = MaySettle t h s values
SettlerGuard t h s (kinds.Resulted place session seq gate reply) = MayResult t h place s session seq gate reply
SettlerGuard t h s kinds.Stopped = Unit {0}
SettlerGuard t h s other = ⊥

abbrev pub Guard : Setting → History → Actor → Kind → Type 0
Guard t h (Gate g) kind = GateGuard t h g kind
Guard t h (Node c p) kind = NodeGuard t.topology h c p kind
Guard t h (Settler s) kind = SettlerGuard t.topology h s kind

-- An entry may follow: its actor is in the topology and has not stopped, and the condition of its kind holds.
pub record May (t : Setting) (h : History) (e : Entry) : Type 0 where
  pub known : is_in t.topology e.actor ≡ true
  pub running : stopped e.actor h ≡ false
  pub guard : Guard t h e.actor e.kind

-- the entry may follow, and it is the actor's
abbrev pub MayBy : Setting → History → Actor → Entry → Type 0
MayBy t h actor e = May t h e × (e.actor ≡ actor)

-- a history is lawful where each entry may follow those before it
abbrev pub Lawful : Setting → History → Type 0
Lawful t [] = Unit {0}
Lawful t (e ∷ h) = Lawful t h × May t h e
