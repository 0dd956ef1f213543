-- What the lines of a script say: the sessions in the order in which they are declared, the commands of each, and the
-- order of all commands. Sessions are numbered from 0, the commands of a session from 1.
use Rattle.std.specs.Prelude.{ℕ, ◌+◌, List, [], ◌∷◌, ◌++◌, map, Option, Some, None, if◌then◌else◌}
use Rattle.std.specs.Option.{option_map}
use Rattle.std.specs.Str.{bytes_eq}
use Rattle.ov_functor.specs.declared.command.Command.{Command}
use Rattle.ov_functor.specs.declared.command.Command.TheVariants as commands
use Rattle.ov_session.specs.declared.after.After as waits
use Rattle.ov_session.specs.declared.planned.Planned.{Planned}
use Rattle.ov_session.specs.declared.plan.SessionPlan.{SessionPlan}
use Rattle.ov_session.specs.declared.roster.Roster.{Roster}
use Rattle.ov_script.specs.declared.line.ScriptLine.{ScriptLine}
use Rattle.ov_script.specs.declared.line.ScriptLine.TheVariants.{Session, Do, Snap, After}
use Rattle.ov_script.specs.declared.order.CommandAt.{CommandAt}

-- ---- sessions by name

-- the sessions in the order of their lines, each with its name and gateway
abbrev pub sessions_of : List ScriptLine → List (List ℕ × ℕ)
sessions_of [] = []
sessions_of (Session name gate ∷ lines) = (name, gate) ∷ sessions_of lines
sessions_of (Do session parts ∷ lines) = sessions_of lines
sessions_of (Snap session keys ∷ lines) = sessions_of lines
sessions_of (After session other seq ∷ lines) = sessions_of lines

-- their names
abbrev pub names_of : List ScriptLine → List (List ℕ)
names_of lines = map (λ session. session.0) (sessions_of lines)

-- the first place of a name
abbrev pub place_in : List ℕ → List (List ℕ) → Option ℕ
place_in name [] = None
place_in name (first ∷ names) = if bytes_eq first name then Some 0 else option_map (λ place. place + 1) (place_in name names)

abbrev pub or_first : Option ℕ → ℕ
or_first None = 0
or_first (Some number) = number

-- the number of a session that is declared
abbrev pub number_in : List (List ℕ) → List ℕ → ℕ
number_in names name = or_first (place_in name names)

-- ---- the commands of one session

-- the command of a line of this session
abbrev pub command_by : List ℕ → ScriptLine → Option Command
command_by name (Session declared gate) = None
command_by name (Do session parts) = if bytes_eq session name then Some (commands.Transact parts) else None
command_by name (Snap session keys) = if bytes_eq session name then Some (commands.Snap keys) else None
command_by name (After session other seq) = None

-- 1 for a command, and else 0
abbrev pub counted : Option Command → ℕ
counted None = 0
counted (Some command) = 1

-- how many of the lines are commands of this session
abbrev pub commands_in : List ℕ → List ScriptLine → ℕ
commands_in name [] = 0
commands_in name (line ∷ lines) = counted (command_by name line) + commands_in name lines

-- a command, and what it waits for
abbrev pub plan_by : List waits.After → Option Command → List Planned
plan_by waiting None = []
plan_by waiting (Some command) = record { command = command; after = waiting } ∷ []

-- what the next command of a session waits for after a line, where these names are declared: an `after` line adds to
-- it, and a command ends it
abbrev pub waiting_by : List (List ℕ) → List ℕ → List waits.After → ScriptLine → List waits.After
waiting_by names name waiting (Session declared gate) = waiting
waiting_by names name waiting (Do session parts) = if bytes_eq session name then [] else waiting
waiting_by names name waiting (Snap session keys) = if bytes_eq session name then [] else waiting
waiting_by names name waiting (After session other seq) =
    if bytes_eq session name then waiting ++ record { session = number_in names other; seq = seq } ∷ [] else waiting

-- the names that are declared after a line
abbrev pub names_by : List (List ℕ) → ScriptLine → List (List ℕ)
names_by names line = names ++ names_of (line ∷ [])

-- what the next command of a session waits for after all these lines
abbrev pub waiting_from : List (List ℕ) → List ℕ → List waits.After → List ScriptLine → List waits.After
waiting_from names name waiting [] = waiting
waiting_from names name waiting (line ∷ lines) = waiting_from (names_by names line) name (waiting_by names name waiting line) lines

-- the commands of a session on these lines, each with what it waits for
abbrev pub planned_from : List (List ℕ) → List ℕ → List waits.After → List ScriptLine → List Planned
planned_from names name waiting [] = []
planned_from names name waiting (line ∷ lines) =
    plan_by waiting (command_by name line) ++ planned_from (names_by names line) name (waiting_by names name waiting line) lines

-- ---- the roster, and the order of all commands

-- what a session of this name is to do
abbrev pub planned_of : List ScriptLine → List ℕ → List Planned
planned_of lines name = planned_from [] name [] lines

-- what its next command would wait for
abbrev pub waiting_of : List ScriptLine → List ℕ → List waits.After
waiting_of lines name = waiting_from [] name [] lines

abbrev pub plan_of : List ScriptLine → List ℕ × ℕ → SessionPlan
plan_of lines session = record { name = session.0; gate = session.1; planned = planned_of lines session.0 }

-- the roster of the lines
abbrev pub roster_of : List ScriptLine → Roster
roster_of lines = record { sessions = map (plan_of lines) (sessions_of lines) }

-- the next command of a session behind these lines
abbrev pub command_at : List ScriptLine → List ℕ → CommandAt
command_at before name = record { session = number_in (names_of before) name; seq = commands_in name before + 1 }

abbrev pub order_by : List ScriptLine → ScriptLine → List CommandAt
order_by before (Session name gate) = []
order_by before (Do session parts) = command_at before session ∷ []
order_by before (Snap session keys) = command_at before session ∷ []
order_by before (After session other seq) = []

-- the commands on the lines behind these
abbrev pub order_from : List ScriptLine → List ScriptLine → List CommandAt
order_from before [] = []
order_from before (line ∷ lines) = order_by before line ++ order_from (before ++ line ∷ []) lines

-- the commands in the order of the lines
abbrev pub order_of : List ScriptLine → List CommandAt
order_of lines = order_from [] lines
