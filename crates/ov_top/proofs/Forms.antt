-- What is accepted of the files, in the words of the headline.
use Rattle.std.proofs.Common.{◌≡◌, ◌≢◌, ◌≤◌, ℕ, Bool, List, Result, Ok, Err, refl, ap, subst, ◌∙◌, arith}
use Rattle.std.specs.List.{AllByRecursion}
use Rattle.ov_base.specs.Lines.{Fault}
use Rattle.ov_topology.specs.Read.{topology_of}
use Rattle.ov_topology.specs.Shape.{Shape}
use Rattle.ov_topology.specs.declared.fault.TopologyError.{TopologyError}
use Rattle.ov_script.proofs.Schedules as schedules
use Rattle.ov_script.proofs.Scripts.{script_takes, script_accepted, script_again}
use Rattle.ov_script.specs.Script.{Content, IsScript, script_of, script_text}
use Rattle.ov_script.specs.Schedule.{IsSchedule, schedule_of, schedule_text}
use Rattle.ov_script.specs.declared.fault.ScheduleError.TheVariants as faults
use Rattle.ov_script.specs.declared.fault.ScheduleFault.{ScheduleFault}
use Rattle.ov_script.specs.declared.fault.ScriptError.TheVariants as scripts
use Rattle.ov_script.specs.declared.fault.ScriptFault.{ScriptFault}
use Rattle.ov_script.specs.declared.line.ScriptLine.{ScriptLine}
use Rattle.ov_script.specs.declared.step.Step.{Step}
use Rattle.ov_event.specs.declared.entry.Entry.{Entry}
use Rattle.ov_journal.proofs.Journals.{journal_again, journal_takes}
use Rattle.ov_journal.specs.Journal.{journal_of, journal_text}
use Rattle.ov_journal.specs.Line.{HasLine}
use Rattle.ov_journal.specs.declared.error.JournalError.TheVariants as journals
use Rattle.ov_top.specs.declared.names.Task.{Task}
use Rattle.ov_top.specs.declared.names.Task.TheVariants.{Follow, Judge}
use Rattle.ov_top.specs.declared.prepare.Third.{Third}
use Rattle.ov_top.specs.declared.prepare.Third.TheVariants as thirds
use Rattle.ov_top.specs.declared.refusal.FormFault.{FormFault}
use Rattle.ov_top.specs.declared.refusal.FormFault.TheVariants as form
use Rattle.ov_top.specs.Form.{accept_journal, accept_schedule, accept_script, accept_third, accept_topology, accepted_as, form_status, journal_or_fault, schedule_or_fault, script_or_fault, topology_or_fault}
use Rattle.ov_top.specs.Reading.{Fits}

-- a fault in a file's form is neither the end of a run nor a failed read
pub form_stops : (fault : FormFault) → (2 ≤ form_status fault) × (form_status fault ≢ 7)
form_stops (form.Topology error) = (omega arith, λ h. omega arith)
form_stops (form.Script error) = (omega arith, λ h. omega arith)
form_stops (form.Schedule error) = (omega arith, λ h. omega arith)
form_stops (form.Journal error) = (omega arith, λ h. omega arith)

-- ---- the topology

takes_topology : (read : Result Shape TopologyError) (topology : Shape) → topology_or_fault read ≡ Ok topology → read ≡ Ok topology
takes_topology (Ok shape) topology e = let same : ◌≡◌ {A = Shape} shape topology = cc in ap (λ (t : Shape). Ok t) same
takes_topology (Err error) topology e = absurd cc

-- the topology that is accepted is the one that the bytes say
pub topology_takes : (bytes : List ℕ) (topology : Shape) → accept_topology bytes ≡ Ok topology → topology_of bytes ≡ Ok topology
topology_takes bytes topology e = takes_topology (topology_of bytes) topology e

-- a topology that the bytes say is accepted
pub topology_again : (bytes : List ℕ) (topology : Shape) → topology_of bytes ≡ Ok topology → accept_topology bytes ≡ Ok topology
topology_again bytes topology e = rw e refl

-- ---- the script

-- The bytes are the text of the script.
pub record SaysScript (gateways : ℕ) (bytes : List ℕ) (script : Content) : Type 0 where
  pub gates_are : script.gateways ≡ gateways
  pub form : IsScript script
  pub text : bytes ≡ script_text script.lines

takes_script : (gateways : ℕ) (bytes : List ℕ) (read : Result (List ScriptLine) (Fault ScriptFault)) (script : Content) → script_of gateways bytes ≡ read
    → script_or_fault gateways read ≡ Ok script → SaysScript gateways bytes script
takes_script gateways bytes (Ok lines) script is e =
    let same : record { gateways = gateways; lines = lines } ≡ script = cc in
    subst (SaysScript gateways bytes) same (record { gates_are = refl; form = script_accepted gateways bytes lines is; text = script_takes gateways bytes lines is })
takes_script gateways bytes (Err fault) script is e = absurd cc

-- accepted bytes are the text of the script
pub script_says : (gateways : ℕ) (bytes : List ℕ) (script : Content) → accept_script gateways bytes ≡ Ok script → SaysScript gateways bytes script
script_says gateways bytes script e = takes_script gateways bytes (script_of gateways bytes) script refl e

-- the text of a script is accepted
pub script_said : (script : Content) → IsScript script → accept_script script.gateways (script_text script.lines) ≡ Ok script
script_said script is = rw (script_again script.gateways script.lines is) refl

-- ---- the schedule

takes_schedule : (bytes : List ℕ) (read : Result (List Step) (Fault ScheduleFault)) (schedule : List Step) → schedule_of bytes ≡ read → schedule_or_fault read ≡ Ok schedule
    → IsSchedule schedule × (bytes ≡ schedule_text schedule)
takes_schedule bytes (Ok steps) schedule is e =
    let same : ◌≡◌ {A = List Step} steps schedule = cc in
    schedules.schedule_takes bytes schedule (is ∙ ap (λ (s : List Step). Ok s) same)
takes_schedule bytes (Err fault) schedule is e = absurd cc

-- accepted bytes are the text of the schedule
pub schedule_says : (bytes : List ℕ) (schedule : List Step) → accept_schedule bytes ≡ Ok schedule → IsSchedule schedule × (bytes ≡ schedule_text schedule)
schedule_says bytes schedule e = takes_schedule bytes (schedule_of bytes) schedule refl e

-- the text of a schedule is accepted
pub schedule_said : (schedule : List Step) → IsSchedule schedule → accept_schedule (schedule_text schedule) ≡ Ok schedule
schedule_said schedule is = rw (schedules.schedule_again schedule is) refl

-- ---- the journal

-- The bytes are the journal of the entries, each of which has a line.
pub record SaysJournal (bytes : List ℕ) (entries : List Entry) : Type 0 where
  pub read : journal_of bytes ≡ Ok entries
  pub lines : AllByRecursion HasLine entries
  pub text : bytes ≡ journal_text entries

takes_journal : (bytes : List ℕ) (read : Result (List Entry) ℕ) (entries : List Entry) → journal_of bytes ≡ read → journal_or_fault read ≡ Ok entries → SaysJournal bytes entries
takes_journal bytes (Ok others) entries is e =
    let same : ◌≡◌ {A = List Entry} others entries = cc in
    let read : journal_of bytes ≡ Ok entries = is ∙ ap (λ (es : List Entry). Ok es) same in
    let takes = journal_takes bytes entries read in
    record { read = read; lines = takes.0; text = takes.1 }
takes_journal bytes (Err line) entries is e = absurd cc

-- accepted bytes are the journal of the entries
pub journal_says : (bytes : List ℕ) (entries : List Entry) → accept_journal bytes ≡ Ok entries → SaysJournal bytes entries
journal_says bytes entries e = takes_journal bytes (journal_of bytes) entries refl e

-- the journal of entries that have lines is accepted
pub journal_said : (entries : List Entry) → AllByRecursion HasLine entries → accept_journal (journal_text entries) ≡ Ok entries
journal_said entries lines = rw (journal_again entries lines) refl

-- the fault of a journal is its first line off the grammar
pub journal_faults : (bytes : List ℕ) (fault : FormFault) → accept_journal bytes ≡ Err fault → (line : ℕ) × (journal_of bytes ≡ Err line) × (fault ≡ form.Journal (journals.Line line))
journal_faults bytes fault e = by (journal_of bytes) refl e
  where
    by : (read : Result (List Entry) ℕ) → journal_of bytes ≡ read → journal_or_fault read ≡ Err fault
        → (line : ℕ) × (journal_of bytes ≡ Err line) × (fault ≡ form.Journal (journals.Line line))
    by (Ok entries) is refused = absurd cc
    by (Err line) is refused = (line, is, cc)

-- ---- the third file

-- where something is accepted as a variant, it was accepted
accepted_was : {A : Type 0} (variant : A → Third) (verdict : Result A FormFault) (third : Third) → accepted_as variant verdict ≡ Ok third → (value : A) × (verdict ≡ Ok value) × (third ≡ variant value)
accepted_was variant (Ok value) third e = (value, refl, let same : ◌≡◌ {A = Result Third FormFault} (Ok (variant value)) (Ok third) = e in cc)
accepted_was variant (Err fault) third e = absurd cc

-- the third text of `step` is a schedule
pub third_schedule : (journal : Bool) (bytes : List ℕ) (third : Third) → accept_third (Follow journal) bytes ≡ Ok third
    → (schedule : List Step) × (accept_schedule bytes ≡ Ok schedule) × (third ≡ thirds.Schedule schedule)
third_schedule journal bytes third e = accepted_was thirds.Schedule (accept_schedule bytes) third e

-- the third text of `audit` is a journal
pub third_journal : (bytes : List ℕ) (third : Third) → accept_third Judge bytes ≡ Ok third → (entries : List Entry) × (accept_journal bytes ≡ Ok entries) × (third ≡ thirds.Journal entries)
third_journal bytes third e = accepted_was thirds.Journal (accept_journal bytes) third e

-- a third text that is accepted is of the kind that the task takes
pub third_fits : (task : Task) (bytes : List ℕ) (third : Third) → accept_third task bytes ≡ Ok third → Fits task third
third_fits (Follow journal) bytes third e = let is = third_schedule journal bytes third e in rw is.2 tt
third_fits Judge bytes third e = let is = third_journal bytes third e in rw is.2 tt

-- ---- faults

-- a refusal of a topology has not the status of a journal
pub topology_not_six : (bytes : List ℕ) (fault : FormFault) → accept_topology bytes ≡ Err fault → form_status fault ≢ 6
topology_not_six bytes fault e = by (topology_of bytes) e
  where
    by : (read : Result Shape TopologyError) → topology_or_fault read ≡ Err fault → form_status fault ≢ 6
    by (Ok topology) e = absurd cc
    by (Err error) e = λ six. let is : form.Topology error ≡ fault = cc in let status : 3 ≡ 6 = ap form_status is ∙ six in omega (arith, status)

-- nor one of a script
pub script_not_six : (gateways : ℕ) (bytes : List ℕ) (fault : FormFault) → accept_script gateways bytes ≡ Err fault → form_status fault ≢ 6
script_not_six gateways bytes fault e = by (script_of gateways bytes) e
  where
    by : (read : Result (List ScriptLine) (Fault ScriptFault)) → script_or_fault gateways read ≡ Err fault → form_status fault ≢ 6
    by (Ok lines) e = absurd cc
    by (Err error) e = λ six. let is : form.Script (scripts.Line error.line error.fault) ≡ fault = cc in let status : 4 ≡ 6 = ap form_status is ∙ six in omega (arith, status)

-- what is refused as a variant was refused
refused_was : {A : Type 0} (variant : A → Third) (verdict : Result A FormFault) (fault : FormFault) → accepted_as variant verdict ≡ Err fault → verdict ≡ Err fault
refused_was variant (Ok value) fault e = absurd cc
refused_was {A = A} variant (Err other) fault e = ap (λ (f : FormFault). Err f) (let same : ◌≡◌ {A = Result Third FormFault} (Err other) (Err fault) = e in cc)

-- nor one of a schedule
pub third_not_six : (journal : Bool) (bytes : List ℕ) (fault : FormFault) → accept_third (Follow journal) bytes ≡ Err fault → form_status fault ≢ 6
third_not_six journal bytes fault e = by (schedule_of bytes) (refused_was thirds.Schedule (accept_schedule bytes) fault e)
  where
    by : (read : Result (List Step) (Fault ScheduleFault)) → schedule_or_fault read ≡ Err fault → form_status fault ≢ 6
    by (Ok steps) e = absurd cc
    by (Err error) e = λ six. let is : form.Schedule (faults.Line error.line error.fault) ≡ fault = cc in let status : 5 ≡ 6 = ap form_status is ∙ six in omega (arith, status)

-- the third file of `audit` is refused where the journal is
pub third_faults : (bytes : List ℕ) (fault : FormFault) → accept_third Judge bytes ≡ Err fault → accept_journal bytes ≡ Err fault
third_faults bytes fault e = refused_was thirds.Journal (accept_journal bytes) fault e
