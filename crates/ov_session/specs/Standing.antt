-- When a command may begin, and what a value that follows the sessions stands for.
use Rattle.std.specs.Prelude.{◌≡◌, ℕ, ◌+◌, ◌<◌, ◌≤◌, ◌^◌, List, length, get_or, slice_get, Option, Some, None, Bool, nat_le, ◌==◌, ◌&&◌, if◌then◌else◌}
use Rattle.std.specs.List.{AllByRecursion}
use Rattle.ov_base.specs.Word.{◌>>=◌}
use Rattle.ov_session.specs.declared.after.After.{After}
use Rattle.ov_session.specs.declared.planned.Planned.{Planned}
use Rattle.ov_session.specs.declared.plan.SessionPlan.{SessionPlan}
use Rattle.ov_session.specs.declared.roster.Roster.{Roster}
use Rattle.ov_session.specs.declared.sessions.Standing.{Standing}
use Rattle.ov_session.specs.Events.{Event, begun, replied, known, floor}

-- the most sessions of a script, and of a roster
abbrev pub most_sessions : ℕ
most_sessions = 64

-- the most commands of a script, and so of a session
abbrev pub most_commands : ℕ
most_commands = 4000

-- A roster of at most 64 sessions, each with at most 4,000 commands.
pub record IsRoster (roster : Roster) : Type 0 where
  pub few : length roster.sessions ≤ most_sessions
  pub short : AllByRecursion (λ plan. length plan.planned ≤ most_commands) roster.sessions

-- whether the session has at most 4,000 commands
abbrev pub is_short : SessionPlan → Bool
is_short plan = nat_le (length plan.planned) most_commands

-- Command seq of session s may begin at the gateway after these events: the session is the gateway's, no command of it
-- is begun and not replied, it has a further command, and all that this one waits for is known as replied.
pub record MayBegin (roster : Roster) (gate : ℕ) (events : List Event) (s seq : ℕ) : Type 0 where
  pub plan : SessionPlan
  pub session : slice_get roster.sessions s ≡ Some plan
  pub own : plan.gate ≡ gate
  pub idle : begun s events ≡ replied s events
  pub next : seq ≡ begun s events + 1
  pub planned : Planned
  pub further : slice_get plan.planned (begun s events) ≡ Some planned
  pub waited : AllByRecursion (λ after. after.seq ≤ known after.session events) planned.after

-- What contracts see of a value that follows the sessions: its gateway, and how each session of the roster stands.
pub record State : Type 0 where
  pub gate : ℕ
  pub standings : List Standing

-- how a session stands to which nothing has happened
abbrev pub fresh : Standing
fresh = record { begun = 0; replied = 0; known = 0; floor = 0 }

-- how a session stands
abbrev pub standing : State → ℕ → Standing
standing state s = get_or state.standings s fresh

-- how a session stands after these events
abbrev pub standing_after : ℕ → List Event → Standing
standing_after s events = record { begun = begun s events; replied = replied s events; known = known s events; floor = floor s events }

-- The value is that of the gateway and the roster after these events.
pub record StandsFor (roster : Roster) (gate : ℕ) (events : List Event) (state : State) : Type 0 where
  pub gateway : state.gate ≡ gate
  pub count : length state.standings ≡ length roster.sessions
  pub each : (s : ℕ) → standing state s ≡ standing_after s events

-- the command of the session that comes next, where the session is the gateway's and stands so, with no command that is
-- begun and not replied
abbrev pub next_of : Roster → ℕ → ℕ → Standing → Option Planned
next_of roster gate s stands = slice_get roster.sessions s >>= λ plan.
    if (plan.gate == gate) && (stands.begun == stands.replied) then slice_get plan.planned stands.begun else None

-- whether the command that is waited for is known as replied
abbrev pub knows : State → After → Bool
knows state after = nat_le after.seq (standing state after.session).known

-- The session is one of the roster.
abbrev pub Has : State → ℕ → Type 0
Has state s = s < length state.standings

-- A command of the session may be noted as begun: none is begun and not replied.
pub record IsIdle (state : State) (s : ℕ) : Type 0 where
  pub there : Has state s
  pub idle : (standing state s).begun ≡ (standing state s).replied
  pub room : (standing state s).begun + 1 < 2 ^ 32

-- The command of the session is begun and not replied.
pub record IsOpen (state : State) (s seq : ℕ) : Type 0 where
  pub there : Has state s
  pub begun : (standing state s).begun ≡ seq
  pub next : (standing state s).replied + 1 ≡ seq
