-- The order in which the commands of a roster come up for their replies: each stands behind all that it waits for.
use Rattle.std.specs.Prelude.{◌≡◌, ℕ, ◌+◌, ◌<◌, ◌⊎◌, true, Some, List, ◌∷◌, ◌++◌, length, slice_get}
use Rattle.ov_functor.specs.Windows.{Among}
use Rattle.ov_session.specs.declared.after.After.{After}
use Rattle.ov_session.specs.declared.planned.Planned.{Planned}
use Rattle.ov_session.specs.declared.plan.SessionPlan.{SessionPlan}
use Rattle.ov_session.specs.declared.roster.Roster.{Roster}
use Rattle.ov_script.specs.declared.order.CommandAt.{CommandAt}
use Rattle.ov_history.specs.Past.{History}
use Rattle.ov_follow.specs.Passes.{is_replied}

-- command number seq of the session
abbrev pub command_at : ℕ → ℕ → CommandAt
command_at s c = record { session = s; seq = c }

-- The command is one of the roster, and those of its session before it, and all that it waits for, are among these.
pub record Comes (roster : Roster) (before : List CommandAt) (one : CommandAt) : Type 0 where
  pub plan : SessionPlan
  pub session : slice_get roster.sessions one.session ≡ Some plan
  pub place : ℕ
  pub number : one.seq ≡ place + 1
  pub planned : Planned
  pub there : slice_get plan.planned place ≡ Some planned
  pub earlier : (c : ℕ) → c < place → Among (command_at one.session (c + 1)) before
  pub waited : (after : After) → Among after planned.after → (after.seq ≡ 0) ⊎ Among (command_at after.session after.seq) before

-- The list has each command of the roster behind those that are to be replied before it begins.
pub record IsOrder (roster : Roster) (order : List CommandAt) : Type 0 where
  pub comes : (before rest : List CommandAt) (one : CommandAt) → order ≡ before ++ one ∷ rest → Comes roster before one
  pub all : (s c : ℕ) (plan : SessionPlan) → slice_get roster.sessions s ≡ Some plan → c < length plan.planned → Among (command_at s (c + 1)) order

-- each of these commands is replied
abbrev pub AllAnswered : History → List CommandAt → Type 0
AllAnswered h commands = (one : CommandAt) → Among one commands → is_replied one.session one.seq h ≡ true
