-- What a line of a schedule asks, and the history after it.
use Rattle.std.specs.Prelude.{ℕ, Option, Some, None, List, [], ◌∷◌, map, slice_get}
use Rattle.std.specs.Option.{option_map}
use Rattle.ov_base.specs.Word.{◌>>=◌}
use Rattle.ov_topology.specs.declared.actor.Actor.{Actor}
use Rattle.ov_topology.specs.declared.actor.Actor.TheVariants.{Gate, Settler}
use Rattle.ov_session.specs.declared.plan.SessionPlan.{SessionPlan}
use Rattle.ov_session.specs.declared.roster.Roster.{Roster}
use Rattle.ov_script.specs.Sessions.{place_in}
use Rattle.ov_script.specs.declared.step.Step.{Step}
use Rattle.ov_script.specs.declared.step.Step.TheVariants as steps
use Rattle.ov_history.specs.Past.{History}
use Rattle.ov_history.specs.May.{Setting}
use Rattle.ov_history.specs.Gives.{Act, gives}
use Rattle.ov_history.specs.Gives as acts
use Rattle.ov_history.specs.Cores.{onto}

-- A line: an actor, and what it is asked to do.
pub record Line : Type 0 where
  pub actor : Actor
  pub act : Act

-- the line by which a session's gateway begins its next command, at a reading of the clock
abbrev pub begin_line : ℕ → ℕ → SessionPlan → Line
begin_line s clock plan = record { actor = Gate plan.gate; act = acts.Begin s clock }

-- the number of the first session of this name, where there is one
abbrev pub session_named : Roster → List ℕ → Option ℕ
session_named roster name = place_in name (map (λ plan. plan.name) roster.sessions)

-- the line by which the next command of the session of this number begins, where there is such a session
abbrev pub begin_of : Roster → ℕ → ℕ → Option Line
begin_of roster clock s = option_map (begin_line s clock) (slice_get roster.sessions s)

-- what a line of a schedule asks; none where it names a session that does not exist
abbrev pub line_of : Roster → Step → Option Line
line_of roster (steps.Begin name clock) = session_named roster name >>= λ s. begin_of roster clock s
line_of roster (steps.Take actor place) = Some (record { actor = actor; act = acts.Take place })
line_of roster (steps.Publish g clock) = Some (record { actor = Gate g; act = acts.Publish clock })
line_of roster (steps.Ask s mode) = Some (record { actor = Settler s; act = acts.Ask mode })
line_of roster (steps.Settle s) = Some (record { actor = Settler s; act = acts.Settle })
line_of roster (steps.Stop actor) = Some (record { actor = actor; act = acts.Stop })

-- the history after a line: with the entry that its actor gives, or as it was where it gives none
abbrev pub followed : Setting → History → Line → History
followed t h line = onto (gives t h line.actor line.act) h

-- the history after lines that are followed in order
abbrev pub followed_all : Setting → History → List Line → History
followed_all t h [] = h
followed_all t h (line ∷ lines) = followed_all t (followed t h line) lines

-- the history after a line, where there is one
abbrev pub followed_some : Setting → History → Option Line → History
followed_some t h None = h
followed_some t h (Some line) = followed t h line

-- the history after a line of a schedule
abbrev pub follow : Setting → History → Step → History
follow t h step = followed_some t h (line_of t.roster step)

-- the history after a schedule, whose lines are followed in order
abbrev pub drive : Setting → History → List Step → History
drive t h [] = h
drive t h (step ∷ schedule) = drive t (follow t h step) schedule
