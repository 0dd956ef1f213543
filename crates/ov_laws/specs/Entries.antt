-- What an entry of a history says, in the words of the laws.
use Rattle.std.specs.Prelude.{◌≡◌, ℕ, ◌<◌, Some, List}
use Rattle.ov_functor.specs.Windows.{Among}
use Rattle.ov_functor.specs.declared.item.Valued.{Valued}
use Rattle.ov_functor.specs.declared.item.Shown.{Shown}
use Rattle.ov_functor.specs.declared.reply.Reply.{Reply}
use Rattle.ov_functor.specs.declared.reply.Reply.TheVariants.{Snap}
use Rattle.ov_gossip.specs.declared.marks.Marks.{Marks}
use Rattle.ov_topology.specs.declared.actor.Actor.{Actor}
use Rattle.ov_topology.specs.declared.actor.Actor.TheVariants.{Gate, Settler}
use Rattle.ov_topology.specs.declared.place.Place.{Place}
use Rattle.ov_event.specs.declared.entry.Entry.{Entry}
use Rattle.ov_event.specs.declared.kind.Kind.TheVariants.{Began, Published, Settled, Replied}
use Rattle.ov_event.specs.declared.start.Start.{Start}
use Rattle.ov_event.specs.declared.start.Start.TheVariants.{Look}
use Rattle.ov_history.specs.Past.{History, at}
use Rattle.ov_history.specs.Draws.{Drawn, drawn_in}

-- ---- entries

-- the entry by which a gateway begins a command
abbrev pub began_by : ℕ → ℕ → ℕ → Start → Entry
began_by g s c start = record { actor = Gate g; kind = Began s c start }

-- the entry by which a gateway replies to a command
abbrev pub replied_by : ℕ → ℕ → ℕ → Place → Reply → Entry
replied_by g s c place reply = record { actor = Gate g; kind = Replied place s c reply }

-- the entry by which a gateway publishes a vector of marks
abbrev pub published_by : ℕ → ℕ → List Marks → Entry
published_by g time vector = record { actor = Gate g; kind = Published time vector }

-- ---- what stands in a history

-- Command c of session s began in entry k.
pub record BeganAt (h : History) (k s c : ℕ) : Type 0 where
  pub gate : ℕ
  pub start : Start
  pub there : at h k ≡ Some (began_by gate s c start)

-- Command c of session s was replied in entry k.
pub record RepliedAt (h : History) (k s c : ℕ) : Type 0 where
  pub gate : ℕ
  pub place : Place
  pub reply : Reply
  pub there : at h k ≡ Some (replied_by gate s c place reply)

-- A command of session s was replied in entry k with this reply.
pub record RepliedWith (h : History) (k s : ℕ) (reply : Reply) : Type 0 where
  pub gate : ℕ
  pub seq : ℕ
  pub place : Place
  pub there : at h k ≡ Some (replied_by gate s seq place reply)

-- Gateway g gave this reply to command c of session s.
pub record HasReply (h : History) (g s c : ℕ) (reply : Reply) : Type 0 where
  pub number : ℕ
  pub place : Place
  pub there : at h number ≡ Some (replied_by g s c place reply)

-- Version v was drawn in entry k.
pub record DrawnAt (h : History) (k v : ℕ) : Type 0 where
  pub entry : Entry
  pub drawn : Drawn
  pub there : at h k ≡ Some entry
  pub draws : drawn_in entry.kind ≡ Some drawn
  pub version_is : drawn.version ≡ v

-- A vector of marks was published in entry k at this time.
pub record PublishedAt (h : History) (k time : ℕ) : Type 0 where
  pub actor : Actor
  pub vector : List Marks
  pub there : at h k ≡ Some (record { actor = actor; kind = Published time vector })

-- Some settler settled this value.
pub record IsSettled (h : History) (x : Valued) : Type 0 where
  pub settler : ℕ
  pub number : ℕ
  pub values : List Valued
  pub there : at h number ≡ Some (record { actor = Settler settler; kind = Settled values })
  pub among : Among x values

-- ---- one after another

-- Version v was drawn after this reply.
pub record DrawnAfter (h : History) (reply : Reply) (v : ℕ) : Type 0 where
  pub session : ℕ
  pub earlier : ℕ
  pub later : ℕ
  pub less : earlier < later
  pub replied : RepliedWith h earlier session reply
  pub drawn : DrawnAt h later v

-- A snapshot of session s began with this floor after this reply of the session.
pub record LooksAfter (h : History) (s : ℕ) (reply : Reply) (floor : ℕ) : Type 0 where
  pub earlier : ℕ
  pub later : ℕ
  pub less : earlier < later
  pub replied : RepliedWith h earlier s reply
  pub gate : ℕ
  pub seq : ℕ
  pub keys : List (List ℕ)
  pub begun : at h later ≡ Some (began_by gate s seq (Look floor keys))

-- A snapshot of session s was replied at this watermark after this reply of the session.
pub record SnapsAfter (h : History) (s : ℕ) (reply : Reply) (watermark : ℕ) : Type 0 where
  pub earlier : ℕ
  pub later : ℕ
  pub less : earlier < later
  pub replied : RepliedWith h earlier s reply
  pub list : List Shown
  pub shown : RepliedWith h later s (Snap watermark list)
