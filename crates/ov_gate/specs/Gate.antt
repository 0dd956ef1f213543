-- What a gateway core is, which histories it stands for, and which entries its calls make.
use Rattle.std.specs.Prelude.{◌≡◌, ℕ, ◌<◌, ◌≤◌, ◌^◌, Bool, true, false, List, [], ◌∷◌, ◌++◌, length, get_or, slice_get, Option, Some, None}
use Rattle.ov_base.specs.Version.{time_of}
use Rattle.ov_gossip.specs.Marks.{mark_at}
use Rattle.ov_gossip.specs.declared.marks.Marks.{Marks}
use Rattle.ov_topology.specs.Shape.{Shape, gates}
use Rattle.ov_topology.specs.declared.actor.Actor.{Actor}
use Rattle.ov_topology.specs.declared.actor.Actor.TheVariants.{Gate}
use Rattle.ov_session.specs.Events.{begun}
use Rattle.ov_session.specs.Standing.{State, StandsFor}
use Rattle.ov_event.specs.Letters.{touches}
use Rattle.ov_event.specs.declared.kind.Kind.{Kind}
use Rattle.ov_event.specs.declared.kind.Kind.TheVariants as kinds
use Rattle.ov_history.specs.Past.{History}
use Rattle.ov_history.specs.Draws.{Drawn, draw_of, last}
use Rattle.ov_history.specs.Placement.{acked}
use Rattle.ov_history.specs.Marks.{marks, lacks_quorum, lacks_copies, lacks_reply}
use Rattle.ov_history.specs.Sessions.{events_of}
use Rattle.ov_history.specs.Gives.{is_own}
use Rattle.ov_history.specs.May.{Setting}
use Rattle.ov_history.specs.Cores.{Runs}
use Rattle.ov_base.specs.Small.{has}
use Rattle.ov_gate.specs.Tracked.{is_acked}
use Rattle.ov_gate.specs.Tracker.{Rises}
use Rattle.ov_gate.specs.declared.tracked.Tracked.{Tracked}

-- What contracts see of a gateway core: the topology, which gateway it is, its last time, the marks that it knows, how its sessions
-- stand, the version that each session drew last, all versions that it drew, and whether it has stopped.
pub record GateState : Type 0 where
  pub topology : Shape
  pub gate : ℕ
  pub last : ℕ
  pub vector : List Marks
  pub sessions : State
  pub latest : List (Option ℕ)
  pub tracked : List Tracked
  pub stopped : Bool

-- What holds of the fields of every core: the last time and the gateway have a version, and the vector has a place for the gateway.
pub record IsCore (gate last : ℕ) (vector : List Marks) : Type 0 where
  pub held : last < 2 ^ 47
  pub small : gate < 2 ^ 16
  pub there : gate < length vector

-- ---- what a core keeps of the versions that it drew

abbrev pub listed : Option Drawn → List Drawn
listed None = []
listed (Some drawn) = drawn ∷ []

-- what the gateway drew, in the order in which it drew
abbrev pub draws : ℕ → History → List Drawn
draws g [] = []
draws g (e ∷ h) = draws g h ++ listed (draw_of g e)

-- What is kept of a drawn version is that version: which partitions it touches, which nodes of the topology have acknowledged it,
-- and what it still lacks. Its time is not after the last time of the gateway, and its command is not after those that have begun;
-- where its command is the last that has begun in its session, it is the session's latest version.
pub record Tracks (t : Shape) (g : ℕ) (h : History) (latest : List (Option ℕ)) (drawn : Drawn) (one : Tracked) : Type 0 where
  pub version_is : one.version ≡ drawn.version
  pub session_is : one.session ≡ drawn.session
  pub seq_is : one.seq ≡ drawn.seq
  pub touched_is : (p : ℕ) → p < t.partitions → has one.touched p ≡ touches t drawn.transaction p
  pub acked_is : (p c : ℕ) → p < t.partitions → c < t.centres → is_acked one.acked p c ≡ acked g drawn.version c p h
  pub quorum_is : one.lacks_quorum ≡ lacks_quorum t g h drawn
  pub copies_is : one.lacks_copies ≡ lacks_copies t g h drawn
  pub reply_is : one.lacks_reply ≡ lacks_reply g h drawn
  pub early : time_of drawn.version ≤ last g h
  pub within : drawn.seq ≤ begun drawn.session (events_of g h)
  pub latest_is : drawn.seq ≡ begun drawn.session (events_of g h) → get_or latest drawn.session None ≡ Some drawn.version

-- What is kept of the drawn versions are those versions, one for one.
abbrev pub TracksAll : Shape → ℕ → History → List (Option ℕ) → List Drawn → List Tracked → Type 0
TracksAll t g h latest [] [] = Unit {0}
TracksAll t g h latest (drawn ∷ others) (one ∷ ones) = Tracks t g h latest drawn one × TracksAll t g h latest others ones
TracksAll t g h latest drawn ones = ⊥

-- ---- which histories a core stands for

-- The core stands for a history after which the actor is as the core has it. Besides what it keeps: each session of which a command
-- has begun here is this gateway's, and each version that is acknowledged here has a time that is not after the last.
pub record IsGate (t : Setting) (h : History) (actor : Actor) (gate : GateState) : Type 0 where
  pub actor_is : actor ≡ Gate gate.gate
  pub runs : Runs t h actor gate.stopped
  pub topology_is : gate.topology ≡ t.topology
  pub last_is : gate.last ≡ last gate.gate h
  pub width : length gate.vector ≡ gates t.topology
  pub marks_are : (k : ℕ) → k < gates t.topology → mark_at gate.vector k ≡ marks (Gate gate.gate) k h
  pub sessions_are : StandsFor t.roster gate.gate (events_of gate.gate h) gate.sessions
  pub latest_count : length gate.latest ≡ length t.roster.sessions
  pub tracked_are : TracksAll t.topology gate.gate h gate.latest (draws gate.gate h) gate.tracked
  pub tracked_rise : Rises gate.tracked
  pub own : (s : ℕ) → 0 < begun s (events_of gate.gate h) → is_own gate.gate (slice_get t.roster.sessions s) ≡ true
  pub acked_early : (v c p : ℕ) → acked gate.gate v c p h ≡ true → time_of v ≤ last gate.gate h

-- ---- the kinds of entries that the calls make

-- whether an entry of this kind is one that `begin` makes
abbrev pub is_begun : Kind → Bool
is_begun (kinds.Began session seq start) = true
is_begun other = false

-- whether an entry of this kind is one that `acked` makes
abbrev pub is_taken : Kind → Bool
is_taken (kinds.Acked place version centre part) = true
is_taken other = false

-- whether an entry of this kind is one that `publish` makes
abbrev pub is_published : Kind → Bool
is_published (kinds.Published time vector) = true
is_published other = false

-- whether an entry of this kind is one that `heard` makes
abbrev pub is_heard : Kind → Bool
is_heard (kinds.Heard place vector) = true
is_heard other = false

-- whether an entry of this kind is one that `replied` makes
abbrev pub is_replied : Kind → Bool
is_replied (kinds.Replied place session seq reply) = true
is_replied other = false

-- whether an entry of this kind is one that `told` makes
abbrev pub is_told : Kind → Bool
is_told (kinds.Told place session seq) = true
is_told other = false
