-- The fault lines of scripts and schedules, without their line feed.
use Rattle.std.specs.Prelude.{ℕ, List, [], ◌++◌, codes}
use Rattle.std.specs.Fmt.{decimal}
use Rattle.ov_script.specs.declared.fault.ScriptFault.{ScriptFault}
use Rattle.ov_script.specs.declared.fault.ScriptFault.TheVariants as scripts
use Rattle.ov_script.specs.declared.fault.ScriptError.{ScriptError}
use Rattle.ov_script.specs.declared.fault.ScriptError.TheVariants as script_errors
use Rattle.ov_script.specs.declared.fault.ScheduleFault.{ScheduleFault}
use Rattle.ov_script.specs.declared.fault.ScheduleFault.TheVariants as schedules
use Rattle.ov_script.specs.declared.fault.ScheduleError.{ScheduleError}
use Rattle.ov_script.specs.declared.fault.ScheduleError.TheVariants as schedule_errors

-- the words of a fault of a script
abbrev pub script_words : ScriptFault → List ℕ
script_words scripts.Form = codes "form"
script_words scripts.SessionTwice = codes "session twice"
script_words scripts.NoGate = codes "no gateway"
script_words scripts.Sessions = codes "too many sessions"
script_words scripts.NoSession = codes "no session"
script_words scripts.TooManyParts = codes "too many parts"
script_words scripts.TooManyKeys = codes "too many keys"
script_words scripts.SameKey = codes "same key"
script_words scripts.Commands = codes "too many commands"
script_words scripts.NoCommand = codes "no such command"

-- the words of a fault of a schedule
abbrev pub schedule_words : ScheduleFault → List ℕ
schedule_words schedules.Form = codes "form"
schedule_words schedules.Lines = codes "too many lines"

-- the line of a fault: the text, the number of its line, and what is wrong
abbrev pub fault_line : List ℕ → ℕ → List ℕ → List ℕ
fault_line text line words = text ++ codes ": line " ++ decimal line ++ codes ": " ++ words

-- the line of a refusal of a script; `Memory` has none
abbrev pub script_fault_text : ScriptError → List ℕ
script_fault_text script_errors.Memory = []
script_fault_text (script_errors.Line line fault) = fault_line (codes "script") line (script_words fault)

-- the line of a refusal of a schedule; `Memory` has none
abbrev pub schedule_fault_text : ScheduleError → List ℕ
schedule_fault_text schedule_errors.Memory = []
schedule_fault_text (schedule_errors.Line line fault) = fault_line (codes "schedule") line (schedule_words fault)
