-- What gateways begin: the versions that they draw, with their transactions.
use Rattle.std.specs.Prelude.{ℕ, ◌-◌, Option, Some, None, List, if◌then◌else◌}
use Rattle.ov_base.specs.Version.{time_of}
use Rattle.ov_functor.specs.declared.part.Part.{Part}
use Rattle.ov_session.specs.Events.{greatest}
use Rattle.ov_event.specs.declared.entry.Entry.{Entry}
use Rattle.ov_event.specs.declared.kind.Kind.{Kind}
use Rattle.ov_event.specs.declared.kind.Kind.TheVariants.{Began, Published}
use Rattle.ov_event.specs.declared.start.Start.{Start}
use Rattle.ov_event.specs.declared.start.Start.TheVariants.{Draw, Look}
use Rattle.ov_event.specs.Letters.{is_gate}
use Rattle.ov_history.specs.Past.{History}

-- A begun transaction: its command, its version and its parts.
pub record Drawn : Type 0 where
  pub session : ℕ
  pub seq : ℕ
  pub version : ℕ
  pub transaction : List Part

abbrev pub drawn_by : ℕ → ℕ → Start → Option Drawn
drawn_by session seq (Draw version transaction) = Some (record { session = session; seq = seq; version = version; transaction = transaction })
drawn_by session seq (Look floor keys) = None

-- what an entry draws
abbrev pub drawn_in : Kind → Option Drawn
drawn_in (Began session seq start) = drawn_by session seq start
drawn_in other = None

-- what an entry of the gateway draws
abbrev pub draw_of : ℕ → Entry → Option Drawn
draw_of g e = if is_gate g e.actor then drawn_in e.kind else None

-- ---- the clock of a gateway

abbrev pub time_drawn : Option Drawn → ℕ
time_drawn None = 0
time_drawn (Some drawn) = time_of drawn.version

-- the time of a drawn version, and one less than the time at which it was published
abbrev pub time_in : Kind → ℕ
time_in (Published time vector) = time - 1
time_in other = time_drawn (drawn_in other)

abbrev pub time_by : ℕ → Entry → ℕ
time_by g e = if is_gate g e.actor then time_in e.kind else 0

-- the last time of the gateway: the greatest of 0, of the times of its drawn versions, and of one less than each time at
-- which it published
abbrev pub last : ℕ → History → ℕ
last g h = greatest (time_by g) h
