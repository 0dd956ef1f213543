-- The form of the files: what is accepted of their bytes, and the fault lines.
use Rattle.std.specs.Prelude.{ℕ, List, [], ◌∷◌, ◌++◌, Result, Ok, Err}
use Rattle.ov_base.specs.Lines.{Fault}
use Rattle.ov_topology.specs.Fault.{fault_text}
use Rattle.ov_topology.specs.Read.{topology_of}
use Rattle.ov_topology.specs.Shape.{Shape}
use Rattle.ov_topology.specs.declared.fault.TopologyError.{TopologyError}
use Rattle.ov_script.specs.FaultLines.{script_fault_text, schedule_fault_text}
use Rattle.ov_script.specs.Script.{Content, script_of}
use Rattle.ov_script.specs.Schedule.{schedule_of}
use Rattle.ov_script.specs.declared.fault.ScheduleError.TheVariants as schedules
use Rattle.ov_script.specs.declared.fault.ScheduleFault.{ScheduleFault}
use Rattle.ov_script.specs.declared.fault.ScriptError.TheVariants as scripts
use Rattle.ov_script.specs.declared.fault.ScriptFault.{ScriptFault}
use Rattle.ov_script.specs.declared.line.ScriptLine.{ScriptLine}
use Rattle.ov_script.specs.declared.step.Step.{Step}
use Rattle.ov_event.specs.declared.entry.Entry.{Entry}
use Rattle.ov_journal.specs.Fault.{journal_fault_text}
use Rattle.ov_journal.specs.Journal.{journal_of}
use Rattle.ov_journal.specs.declared.error.JournalError.TheVariants as journals
use Rattle.ov_top.specs.declared.names.Task.{Task}
use Rattle.ov_top.specs.declared.names.Task.TheVariants.{Follow, Judge}
use Rattle.ov_top.specs.declared.refusal.FormFault.{FormFault}
use Rattle.ov_top.specs.declared.refusal.FormFault.TheVariants as form
use Rattle.ov_top.specs.declared.prepare.Third.{Third}
use Rattle.ov_top.specs.declared.prepare.Third.TheVariants as thirds

-- ---- what is accepted

abbrev pub topology_or_fault : Result Shape TopologyError → Result Shape FormFault
topology_or_fault (Ok topology) = Ok topology
topology_or_fault (Err error) = Err (form.Topology error)

-- what becomes of the topology's bytes
abbrev pub accept_topology : List ℕ → Result Shape FormFault
accept_topology bytes = topology_or_fault (topology_of bytes)

abbrev pub script_or_fault : ℕ → Result (List ScriptLine) (Fault ScriptFault) → Result Content FormFault
script_or_fault gateways (Ok lines) = Ok (record { gateways = gateways; lines = lines })
script_or_fault gateways (Err fault) = Err (form.Script (scripts.Line fault.line fault.fault))

-- what becomes of the script's bytes, where there are so many gateways
abbrev pub accept_script : ℕ → List ℕ → Result Content FormFault
accept_script gateways bytes = script_or_fault gateways (script_of gateways bytes)

abbrev pub schedule_or_fault : Result (List Step) (Fault ScheduleFault) → Result (List Step) FormFault
schedule_or_fault (Ok steps) = Ok steps
schedule_or_fault (Err fault) = Err (form.Schedule (schedules.Line fault.line fault.fault))

-- what becomes of the schedule's bytes
abbrev pub accept_schedule : List ℕ → Result (List Step) FormFault
accept_schedule bytes = schedule_or_fault (schedule_of bytes)

abbrev pub journal_or_fault : Result (List Entry) ℕ → Result (List Entry) FormFault
journal_or_fault (Ok entries) = Ok entries
journal_or_fault (Err line) = Err (form.Journal (journals.Line line))

-- what becomes of the journal's bytes
abbrev pub accept_journal : List ℕ → Result (List Entry) FormFault
accept_journal bytes = journal_or_fault (journal_of bytes)

-- what is accepted, in a variant of the third text
abbrev pub accepted_as : {A : Type 0} → (A → Third) → Result A FormFault → Result Third FormFault
accepted_as variant (Ok value) = Ok (variant value)
accepted_as variant (Err fault) = Err fault

-- what becomes of the bytes of the third file: a schedule, or a journal
abbrev pub accept_third : Task → List ℕ → Result Third FormFault
accept_third (Follow journal) bytes = accepted_as thirds.Schedule (accept_schedule bytes)
accept_third Judge bytes = accepted_as thirds.Journal (accept_journal bytes)

-- ---- the fault lines

-- the fault line, without its line feed
abbrev pub form_line : FormFault → List ℕ
form_line (form.Topology error) = fault_text error
form_line (form.Script error) = script_fault_text error
form_line (form.Schedule error) = schedule_fault_text error
form_line (form.Journal error) = journal_fault_text error

-- the fault line
abbrev pub form_text : FormFault → List ℕ
form_text fault = form_line fault ++ 10 ∷ []

-- the status of a file that is refused
abbrev pub form_status : FormFault → ℕ
form_status (form.Topology error) = 3
form_status (form.Script error) = 4
form_status (form.Schedule error) = 5
form_status (form.Journal error) = 6
