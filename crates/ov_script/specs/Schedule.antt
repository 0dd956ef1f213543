-- Schedules: which lists of steps are one, and how a text is read.
use Rattle.std.specs.Prelude.{◌≡◌, ℕ, ◌≤◌, nat_lt, List, [], ◌∷◌, ◌++◌, length, Option, Some, None, Result, Ok, Err, if◌then◌else◌}
use Rattle.std.specs.List.{AllByRecursion}
use Rattle.ov_base.specs.Lines.{Fault, read_text, lines_text}
use Rattle.ov_script.specs.Step.{IsStep, step_of, step_text}
use Rattle.ov_script.specs.declared.step.Step.{Step}
use Rattle.ov_script.specs.declared.fault.ScheduleFault.{ScheduleFault}
use Rattle.ov_script.specs.declared.fault.ScheduleFault.TheVariants.{Form, Lines}
use Rattle.ov_script.specs.declared.fault.ScheduleError.{ScheduleError}
use Rattle.ov_script.specs.declared.fault.ScheduleError.TheVariants as errors

-- the most lines of a schedule
abbrev pub most_steps : ℕ
most_steps = 100000

-- The steps are a schedule.
pub record IsSchedule (steps : List Step) : Type 0 where
  pub few : length steps ≤ most_steps
  pub each : AllByRecursion IsStep steps

-- the text of a schedule
abbrev pub schedule_text : List Step → List ℕ
schedule_text steps = lines_text step_text steps

-- a step more, where one was read
abbrev pub step_read : List Step → Option Step → Result (List Step) ScheduleFault
step_read steps None = Err Form
step_read steps (Some step) = Ok (steps ++ step ∷ [])

-- what the bytes of line k make of the steps before it
abbrev pub line_read : List Step → ℕ → List ℕ → Result (List Step) ScheduleFault
line_read steps k text = if nat_lt most_steps k then Err Lines else step_read steps (step_of text)

-- the fault of a line k without its line feed
abbrev pub unended : ℕ → ScheduleFault
unended k = if nat_lt most_steps k then Lines else Form

-- the schedule of a text, or its first fault
abbrev pub schedule_of : List ℕ → Result (List Step) (Fault ScheduleFault)
schedule_of bytes = read_text line_read unended [] bytes

-- what a refusal says is what reading gives, unless memory ran out
abbrev pub Fails : {S : Type 0} → ScheduleError → Result S (Fault ScheduleFault) → Type 0
Fails errors.Memory read = Unit {0}
Fails (errors.Line line fault) read = read ≡ Err (record { line = line; fault = fault })

-- what a call returned is what reading gives, unless memory ran out
abbrev pub Gives : Result (List Step) ScheduleError → Result (List Step) (Fault ScheduleFault) → Type 0
Gives (Ok steps) read = read ≡ Ok steps
Gives (Err error) read = Fails error read
