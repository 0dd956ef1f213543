-- The reading half: what it makes of each file, and what it returns.
use Rattle.std.specs.Prelude.{◌≡◌, ◌≤◌, ℕ, List, [], Option, Result, Ok, Err, length}
use Rattle.ov_io.specs.declared.shelf.ShelfError.{ShelfError}
use Rattle.ov_io.specs.declared.shelf.ShelfError.TheVariants as shelf
use Rattle.ov_io.specs.Causes.{Rose, Agrees, LongerThan}
use Rattle.ov_topology.specs.declared.fault.TopologyError.{TopologyError}
use Rattle.ov_topology.specs.declared.fault.TopologyError.TheVariants as topologies
use Rattle.ov_script.specs.declared.fault.ScriptError.{ScriptError}
use Rattle.ov_script.specs.declared.fault.ScriptError.TheVariants as scripts
use Rattle.ov_script.specs.declared.fault.ScheduleError.{ScheduleError}
use Rattle.ov_script.specs.declared.fault.ScheduleError.TheVariants as schedules
use Rattle.ov_journal.specs.declared.error.JournalError.{JournalError}
use Rattle.ov_journal.specs.declared.error.JournalError.TheVariants as journals
use Rattle.ov_journal.specs.declared.verdict.Verdict.{Verdict}
use Rattle.ov_world.specs.declared.story.Story.{Story}
use Rattle.ov_top.specs.declared.names.Task.{Task}
use Rattle.ov_top.specs.declared.names.Task.TheVariants.{Follow, Judge}
use Rattle.ov_top.specs.declared.prepare.Accepted.{Accepted}
use Rattle.ov_top.specs.declared.prepare.Third.{Third}
use Rattle.ov_top.specs.declared.prepare.Third.TheVariants as thirds
use Rattle.ov_top.specs.declared.refusal.FileWord.{FileWord}
use Rattle.ov_top.specs.declared.refusal.FormFault.{FormFault}
use Rattle.ov_top.specs.declared.refusal.FormFault.TheVariants as form
use Rattle.ov_top.specs.declared.refusal.Refusal.{Refusal}
use Rattle.ov_top.specs.declared.refusal.Refusal.TheVariants as why
use Rattle.ov_top.specs.Names.{Names, name_at}
use Rattle.ov_top.specs.Form.{form_status, form_text}
use Rattle.ov_top.specs.Ending.{Ending, IsPartOf, IsRightOn, nothing, refused, ended, limit, read_fault_text, too_long_text}
use Rattle.ov_top.specs.Causes.{Told, Counts, Meant}

-- ---- one file

-- the refusal of a shelf's error
abbrev pub refusal_by : ShelfError → FileWord → Refusal
refusal_by shelf.Memory which = why.Memory
refusal_by shelf.Failed which = why.Failed which
refusal_by shelf.TooLong which = why.TooLong which

-- a refusal of the topology
abbrev pub by_topology : TopologyError → Refusal
by_topology topologies.Memory = why.Memory
by_topology fault = why.Form (form.Topology fault)

-- a refusal of the script
abbrev pub by_script : ScriptError → Refusal
by_script scripts.Memory = why.Memory
by_script fault = why.Form (form.Script fault)

-- a refusal of the schedule
abbrev pub by_schedule : ScheduleError → Refusal
by_schedule schedules.Memory = why.Memory
by_schedule fault = why.Form (form.Schedule fault)

-- a refusal of the journal
abbrev pub by_journal : JournalError → Refusal
by_journal journals.Memory = why.Memory
by_journal fault = why.Form (form.Journal fault)

-- why a file was not read, in the words of a refusal
abbrev pub RefusesFile : Option (List ℕ) → ℕ → ℕ → FileWord → Refusal → Type 0
RefusesFile told count now which why.Memory = Unit {0}
RefusesFile told count now which (why.Failed failed) = (failed ≡ which) × Rose count now
RefusesFile told count now which (why.TooLong long) = (long ≡ which) × LongerThan (limit which) told
RefusesFile told count now which (why.Form fault) = ⊥

-- the refusal of a file's bytes is the fault that they have, unless memory ran out
abbrev pub RefusesForm : {A : Type 0} → Refusal → Result A FormFault → Type 0
RefusesForm why.Memory verdict = Unit {0}
RefusesForm (why.Failed failed) verdict = ⊥
RefusesForm (why.TooLong long) verdict = ⊥
RefusesForm (why.Form fault) verdict = verdict ≡ Err fault

-- what a call makes of a file's bytes is what becomes of them, unless memory ran out
abbrev pub AcceptsBy : {A : Type 0} → Result A Refusal → Result A FormFault → Type 0
AcceptsBy (Ok value) verdict = verdict ≡ Ok value
AcceptsBy (Err refusal) verdict = RefusesForm refusal verdict

-- Bytes within the limit of their file that agree with what is told, of which this becomes.
pub record Becomes {A : Type 0} (told : Option (List ℕ)) (which : FileWord) (accept : List ℕ → Result A FormFault) (verdict : Result A FormFault) : Type 0 where
  pub bytes : List ℕ
  pub agrees : Agrees told bytes
  pub short : length bytes ≤ limit which
  pub becomes : accept bytes ≡ verdict

abbrev pub RefusesRead : {A : Type 0} → Option (List ℕ) → ℕ → ℕ → FileWord → (List ℕ → Result A FormFault) → Refusal → Type 0
RefusesRead told count now which accept why.Memory = Unit {0}
RefusesRead told count now which accept (why.Failed failed) = (failed ≡ which) × Rose count now
RefusesRead told count now which accept (why.TooLong long) = (long ≡ which) × LongerThan (limit which) told
RefusesRead told count now which accept (why.Form fault) = Becomes told which accept (Err fault)

abbrev pub ReadsBy : {A : Type 0} → Option (List ℕ) → ℕ → ℕ → FileWord → (List ℕ → Result A FormFault) → Result A Refusal → Type 0
ReadsBy told count now which accept (Ok value) = Becomes told which accept (Ok value)
ReadsBy told count now which accept (Err refusal) = RefusesRead told count now which accept refusal

-- a file was read and accepted, or refused by its cause
abbrev pub Reads : {A : Type 0} → Told → Counts → Counts → Names → FileWord → (List ℕ → Result A FormFault) → Result A Refusal → Type 0
Reads told counts now names which accept result = ReadsBy (told (name_at names which)) (counts (name_at names which)) (now (name_at names which)) which accept result

-- a read failed
abbrev pub IsFailed : Refusal → Type 0
IsFailed (why.Failed which) = Unit {0}
IsFailed refusal = ⊥

-- the result is that a read failed
abbrev pub IsFailure : {A : Type 0} → Result A Refusal → Type 0
IsFailure (Ok value) = ⊥
IsFailure (Err refusal) = IsFailed refusal

-- ---- all files

-- the status of a refusal
abbrev pub refusal_status : Refusal → ℕ
refusal_status why.Memory = 9
refusal_status (why.Failed failed) = 7
refusal_status (why.TooLong long) = 10
refusal_status (why.Form fault) = form_status fault

-- the text of a refusal
abbrev pub refusal_text : Names → Refusal → List ℕ
refusal_text names why.Memory = []
refusal_text names (why.Failed failed) = read_fault_text (name_at names failed)
refusal_text names (why.TooLong long) = too_long_text (name_at names long)
refusal_text names (why.Form fault) = form_text fault

-- a refusal, with what the story has then, leads to this end; out of memory the story has a part of it
abbrev pub RefusalLeads : Names → Refusal → Story → Ending → Type 0
RefusalLeads names why.Memory story end = IsPartOf story end.story
RefusalLeads names refusal story end = end ≡ refused (refusal_status refusal) (refusal_text names refusal) story

-- A refusal, with what the story has then, leads to an end that is meant.
pub record Refuses (told : Told) (counts now : Counts) (names : Names) (refusal : Refusal) (story : Story) : Type 0 where
  pub end : Ending
  pub meant : Meant told counts now names end
  pub leads : RefusalLeads names refusal story end

-- Nothing is in the story, and what is accepted leads to an end that is meant: to that of the right verdict, where the third file is a journal.
pub record Accepts (told : Told) (counts now : Counts) (names : Names) (texts : Accepted) (story : Story) : Type 0 where
  pub empty : story ≡ nothing
  pub meant : (verdict : Verdict) → IsRightOn texts.topology texts.script verdict texts.third
      → Meant told counts now names (ended names.task verdict texts.topology texts.script texts.third)

-- what the reading half returns leads to an end that is meant
abbrev pub Prepares : Told → Counts → Counts → Names → Result Accepted Refusal → Story → Type 0
Prepares told counts now names (Ok texts) story = Accepts told counts now names texts story
Prepares told counts now names (Err refusal) story = Refuses told counts now names refusal story

-- the third text is of the kind that the task takes
abbrev pub Fits : Task → Third → Type 0
Fits (Follow journal) (thirds.Schedule schedule) = Unit {0}
Fits Judge (thirds.Journal entries) = Unit {0}
Fits task third = ⊥
