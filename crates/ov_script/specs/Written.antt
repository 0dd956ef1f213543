-- How a script keeps its lines: what its roster does not say.
use Rattle.std.specs.Prelude.{◌≡◌, ℕ, ◌-◌, ◌<◌, ◌≤◌, List, [], ◌∷◌, ◌++◌, map, length, get_or, set, Some, None, Result, Ok, Err}
use Rattle.std.specs.List.{AllByRecursion}
use Rattle.ov_functor.specs.declared.command.Command.{Command}
use Rattle.ov_functor.specs.declared.command.Command.TheVariants as commands
use Rattle.ov_session.specs.declared.after.After as waits
use Rattle.ov_session.specs.declared.planned.Planned.{Planned}
use Rattle.ov_session.specs.declared.plan.SessionPlan.{SessionPlan}
use Rattle.ov_session.specs.declared.roster.Roster.{Roster}
use Rattle.ov_session.specs.Standing.{most_commands, most_sessions}
use Rattle.ov_script.specs.Line.{IsLine, line_text}
use Rattle.ov_script.specs.Sessions.{names_of, place_in, planned_of, waiting_of, roster_of, order_of}
use Rattle.ov_script.specs.Faults.{fault_of}
use Rattle.ov_script.specs.Script.{Content, IsScript, IsFaultOf}
use Rattle.ov_base.specs.declared.memory.Memory.{Memory}
use Rattle.ov_script.specs.declared.fault.AddError.{AddError}
use Rattle.ov_script.specs.declared.fault.AddError.TheVariants as adds
use Rattle.ov_script.specs.declared.line.ScriptLine.{ScriptLine}
use Rattle.ov_script.specs.declared.line.ScriptLine.TheVariants.{Session, Do, Snap, After}
use Rattle.ov_script.specs.declared.order.CommandAt.{CommandAt}
use Rattle.ov_script.specs.declared.written.Written.{Written}
use Rattle.ov_script.specs.declared.written.Written.TheVariants as kept

-- ---- the lines that are kept

-- the plan of a session, and an empty one where there is none
abbrev pub plan_at : Roster → ℕ → SessionPlan
plan_at roster s = get_or roster.sessions s (record { name = []; gate = 0; planned = [] })

-- the name of a session, and an empty one where there is none
abbrev pub name_at : Roster → ℕ → List ℕ
name_at roster s = (plan_at roster s).name

-- command c of session s, and one without keys where there is none
abbrev pub command_at : Roster → ℕ → ℕ → Command
command_at roster s c = (get_or (plan_at roster s).planned (c - 1) (record { command = commands.Snap []; after = [] })).command

-- the line of a command
abbrev pub command_line : List ℕ → Command → ScriptLine
command_line name (commands.Transact parts) = Do name parts
command_line name (commands.Snap keys) = Snap name keys

-- the line that is kept so
abbrev pub line_at : Roster → Written → ScriptLine
line_at roster (kept.Session s) = Session (name_at roster s) (plan_at roster s).gate
line_at roster (kept.Command s c) = command_line (name_at roster s) (command_at roster s c)
line_at roster (kept.After s other seq) = After (name_at roster s) (name_at roster other) seq

-- the lines that are kept so
abbrev pub lines_at : Roster → List Written → List ScriptLine
lines_at roster written = map (line_at roster) written

-- its text, with its line feed
abbrev pub kept_text : Roster → Written → List ℕ
kept_text roster w = line_text (line_at roster w) ++ 10 ∷ []

-- the name of a session that is declared
abbrev pub name_in : List ScriptLine → ℕ → List ℕ
name_in lines s = get_or (names_of lines) s []

-- the line of a command of this session
abbrev pub line_in : List ScriptLine → ℕ → Command → ScriptLine
line_in lines s command = command_line (name_in lines s) command

-- the session of this number is declared
abbrev pub IsDeclared : List ScriptLine → ℕ → Type 0
IsDeclared lines s = place_in (name_in lines s) (names_of lines) ≡ Some s

-- ---- what adding a line does

-- the lines with one more
abbrev pub with_line : Content → ScriptLine → Content
with_line script line = record { gateways = script.gateways; lines = script.lines ++ line ∷ [] }

-- the line may stand at the end: it is in form and has no fault
abbrev pub MayStand : Content → ScriptLine → Type 0
MayStand script line = IsLine line × (fault_of script.gateways script.lines line ≡ None)

-- what a call that takes a line in leaves: the line stands last, or nothing has changed
abbrev pub Inserts : {T E : Type 0} → Result T E → Content → Content → ScriptLine → Type 0
Inserts (Ok done) old new line = new ≡ with_line old line
Inserts (Err error) old new line = new ≡ old

-- what a call that adds a line returns and leaves: the line has no fault and stands last, or a refusal names its fault
-- and nothing has changed
abbrev pub Adds : {T : Type 0} → Result T AddError → Content → Content → ScriptLine → Type 0
Adds (Ok done) old new line = (fault_of old.gateways old.lines line ≡ None) × (new ≡ with_line old line)
Adds (Err error) old new line = IsFaultOf error (fault_of old.gateways old.lines line) × (new ≡ old)

-- what a call that adds returns, by the call that took the line in
abbrev pub answered : {T : Type 0} → Result T Memory → Result T AddError
answered (Ok done) = Ok done
answered (Err memory) = Err adds.Memory

-- ---- what is added to a roster

-- the roster with one session more
abbrev pub with_session : Roster → SessionPlan → Roster
with_session roster plan = record { sessions = roster.sessions ++ plan ∷ [] }

-- the plan with one command more
abbrev pub plan_more : SessionPlan → Planned → SessionPlan
plan_more plan planned = record { name = plan.name; gate = plan.gate; planned = plan.planned ++ planned ∷ [] }

-- the roster with one command more of this session
abbrev pub with_command : Roster → ℕ → Planned → Roster
with_command roster s planned = record { sessions = set roster.sessions s (plan_more (plan_at roster s) planned) }

-- ---- what a script keeps

-- no name stands twice
abbrev pub Apart : List (List ℕ) → Type 0
Apart [] = Unit {0}
Apart (first ∷ names) = (place_in first names ≡ None) × Apart names

-- the numbers of a kept line are those of sessions and commands in the roster
abbrev pub IsWithin : Roster → Written → Type 0
IsWithin roster (kept.Session s) = s < length roster.sessions
IsWithin roster (kept.Command s c) = (s < length roster.sessions) × (1 ≤ c) × (c ≤ length (plan_at roster s).planned)
IsWithin roster (kept.After s other seq) = (s < length roster.sessions) × (other < length roster.sessions)

-- the kept line can be printed
abbrev pub IsShown : Roster → Written → Type 0
IsShown roster w = IsWithin roster w × IsLine (line_at roster w)

-- of a session that is not declared no command is planned, and its next command waits for nothing
abbrev pub AreQuiet : List ScriptLine → Type 0
AreQuiet lines = (name : List ℕ) → place_in name (names_of lines) ≡ None → (planned_of lines name ≡ []) × (waiting_of lines name ≡ [])

-- The names, the roster, what waits and the order are those that the lines say.
pub record Says (lines : List ScriptLine) (names : List (List ℕ)) (roster : Roster) (waiting : List (List waits.After)) (order : List CommandAt) : Type 0 where
  pub named : names ≡ names_of lines
  pub apart : Apart names
  pub few : length names ≤ most_sessions
  pub rostered : roster ≡ roster_of lines
  pub waited : waiting ≡ map (waiting_of lines) names
  pub ordered : order ≡ order_of lines
  pub short : length order ≤ most_commands
  pub quiet : AreQuiet lines

-- What a script keeps is what its lines say, and they are a script.
pub record IsKept (gateways : ℕ) (names : List (List ℕ)) (roster : Roster) (waiting : List (List waits.After)) (order : List CommandAt) (written : List Written) : Type 0 where
  pub says : Says (lines_at roster written) names roster waiting order
  pub within : AllByRecursion (IsWithin roster) written
  pub script : IsScript (record { gateways = gateways; lines = lines_at roster written })
