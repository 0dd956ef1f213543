-- The order of work, as one function: how a command ends where its files have these bytes.
use Rattle.std.specs.Prelude.{◌≡◌, ℕ, Bool, false, nat_lt, List, [], ◌++◌, length, reverse, codes, Some, None, Result, Ok, Err, ◌⊎◌, if◌then◌else◌}
use Rattle.std.specs.Fmt.{decimal}
use Rattle.std.specs.List.{list_all}
use Rattle.ov_base.specs.Word.{AddsFront}
use Rattle.ov_topology.specs.Shape.{Shape, gates}
use Rattle.ov_script.specs.Script.{Content}
use Rattle.ov_script.specs.declared.step.Step.{Step}
use Rattle.ov_history.specs.Past.{History}
use Rattle.ov_follow.specs.Lines.{drive}
use Rattle.ov_follow.specs.Calm.{calm, all_replied}
use Rattle.ov_world.specs.World.{setting_by}
use Rattle.ov_world.specs.declared.story.Story.{Story}
use Rattle.ov_make.specs.Made.{made_script, made_topology}
use Rattle.ov_report.specs.Report.{Line, is_answered, report_text}
use Rattle.ov_report.specs.Summary.{summary_of, summary_text}
use Rattle.ov_event.specs.declared.entry.Entry.{Entry}
use Rattle.ov_journal.specs.Journal.{journal_text}
use Rattle.ov_journal.specs.Audit.{Judges}
use Rattle.ov_journal.specs.declared.verdict.Verdict.{Verdict}
use Rattle.ov_journal.specs.declared.verdict.Verdict.TheVariants.{Lawful, Refused}
use Rattle.ov_top.specs.declared.names.Task.{Task}
use Rattle.ov_top.specs.declared.names.Task.TheVariants.{Follow, Judge}
use Rattle.ov_top.specs.declared.prepare.Third.{Third}
use Rattle.ov_top.specs.declared.prepare.Third.TheVariants as thirds
use Rattle.ov_top.specs.declared.refusal.FileWord.{FileWord}
use Rattle.ov_top.specs.declared.refusal.FileWord.TheVariants as word
use Rattle.ov_top.specs.declared.refusal.FormFault.{FormFault}
use Rattle.ov_top.specs.Form.{accept_topology, accept_script, accept_third, form_status, form_text}
use Rattle.ov_top.specs.Names.{Names, name_at, third_word}

-- ---- the texts

abbrev pub usage_text : List ℕ
usage_text = codes "usage: oceanvista step [--journal] TOPOLOGY SCRIPT SCHEDULE\n       oceanvista run [--journal] TOPOLOGY SCRIPT WORKERS\n       oceanvista audit TOPOLOGY SCRIPT JOURNAL\n       oceanvista make NUMBER COMMANDS\n"

abbrev pub read_fault_text : List ℕ → List ℕ
read_fault_text name = codes "read fault: " ++ name ++ codes "\n"

abbrev pub too_long_text : List ℕ → List ℕ
too_long_text name = codes "too long: " ++ name ++ codes "\n"

-- the text of a verdict on so many entries
abbrev pub verdict_text : ℕ → Verdict → List ℕ
verdict_text count Lawful = codes "lawful " ++ decimal count ++ codes "\n"
verdict_text count (Refused number) = codes "journal: entry " ++ decimal number ++ codes "\n"

-- ---- the files

-- The bytes of the three files.
pub record Files : Type 0 where
  pub topology : List ℕ
  pub script : List ℕ
  pub third : List ℕ

-- the most bytes of a file
abbrev pub limit : FileWord → ℕ
limit word.Topology = 4194304
limit word.Script = 4194304
limit word.Schedule = 4194304
limit word.Journal = 67108864

-- ---- stories

-- the story in which nothing was read
abbrev pub nothing : Story
nothing = record { topology = None; script = None; entries = [] }

-- the story in which a topology was accepted, and no more
abbrev pub with_topology : Shape → Story
with_topology topology = record { topology = Some topology; script = None; entries = [] }

-- the story of a topology and a script with these entries
abbrev pub story_with : Shape → Content → List Entry → Story
story_with topology script entries = record { topology = Some topology; script = Some script; entries = entries }

-- the story of a topology and a script with a history
abbrev pub story_of : Shape → Content → History → Story
story_of topology script h = story_with topology script (reverse h)

-- the history that a schedule, and then calm rounds, make of an empty one
abbrev pub run_of : Shape → Content → List Step → History
run_of topology script schedule = calm (setting_by topology script) (drive (setting_by topology script) [] schedule)

-- The story has first entries of the whole one. It has the whole one's topology and script, or lacks them; where it has an entry it lacks neither.
pub record IsPartOf (story whole : Story) : Type 0 where
  pub topology : (story.topology ≡ whole.topology) ⊎ (story.topology ≡ None)
  pub script : (story.script ≡ whole.script) ⊎ (story.script ≡ None)
  pub both : ((story.topology ≡ whole.topology) × (story.script ≡ whole.script)) ⊎ (story.entries ≡ [])
  pub entries : AddsFront [] story.entries whole.entries

-- ---- the end

-- How a call ends: its status, the text that it is to write, and its story then.
pub record Ending : Type 0 where
  pub status : ℕ
  pub text : List ℕ
  pub story : Story

-- an end before anything was followed
abbrev pub refused : ℕ → List ℕ → Story → Ending
refused status text story = record { status = status; text = text; story = story }

-- the status of a report with these lines
abbrev pub report_status : List Line → ℕ
report_status lines = if list_all is_answered lines then 0 else 1

-- the status of a history: 0 where every command is replied
abbrev pub history_status : Shape → Content → History → ℕ
history_status topology script h = if all_replied (setting_by topology script) h then 0 else 1

-- the text of a history: its journal, or its report
abbrev pub history_text : Bool → Content → History → List ℕ
history_text journal script h = if journal then journal_text (reverse h) else report_text script h

-- the end of a run with this history: its journal or its report
abbrev pub reported : Bool → Shape → Content → History → Ending
reported journal topology script h = record { status = history_status topology script h; text = history_text journal script h; story = story_of topology script h }

-- the end of a schedule that was followed and calmed
abbrev pub done : Bool → Shape → Content → List Step → Ending
done journal topology script schedule = reported journal topology script (run_of topology script schedule)

-- the end of a script that was run over the empty schedule: its summary
abbrev pub summed : Shape → Content → Ending
summed topology script = record {
  status = 0;
  text = summary_text (summary_of (Some script) (reverse (run_of topology script [])));
  story = story_of topology script (run_of topology script []);
}

-- the history of a made script
abbrev pub made_run : ℕ → ℕ → History
made_run number commands = run_of made_topology (made_script number commands) []

-- the end of a made script that was run
abbrev pub made : ℕ → ℕ → Ending
made number commands = summed made_topology (made_script number commands)

-- the status of a verdict
abbrev pub verdict_status : Verdict → ℕ
verdict_status Lawful = 0
verdict_status (Refused number) = 6

-- the end of a journal that was judged: the verdict
abbrev pub judged : Shape → Content → List Entry → Verdict → Ending
judged topology script entries verdict =
    record { status = verdict_status verdict; text = verdict_text (length entries) verdict; story = story_with topology script entries }

-- whether the history is to be written in place of the report
abbrev pub writes_journal : Task → Bool
writes_journal (Follow journal) = journal
writes_journal Judge = false

-- the end behind a third text, with this verdict on the entries where it is a journal
abbrev pub ended : Task → Verdict → Shape → Content → Third → Ending
ended task verdict topology script (thirds.Schedule schedule) = done (writes_journal task) topology script schedule
ended task verdict topology script (thirds.Journal entries) = judged topology script entries verdict

-- a file within its limit goes on
abbrev pub within : Names → FileWord → List ℕ → Story → Ending → Ending
within names which bytes story next = if nat_lt (limit which) (length bytes) then refused 10 (too_long_text (name_at names which)) story else next

-- an accepted file goes on
abbrev pub accepted : {A : Type 0} → Result A FormFault → Story → (A → Ending) → Ending
accepted (Ok value) story next = next value
accepted (Err fault) story next = refused (form_status fault) (form_text fault) story

abbrev pub at_third : Names → Files → Verdict → Shape → Content → Ending
at_third names files verdict topology script =
    within names (third_word names.task) files.third (story_of topology script [])
    (accepted (accept_third names.task files.third) (story_of topology script []) (ended names.task verdict topology script))

abbrev pub at_script : Names → Files → Verdict → Shape → Ending
at_script names files verdict topology =
    within names word.Script files.script (with_topology topology)
    (accepted (accept_script (gates topology) files.script) (with_topology topology) (at_third names files verdict topology))

-- the end with these file words, where the files have these bytes, and this is the verdict on the entries of the journal
abbrev pub at_topology : Names → Files → Verdict → Ending
at_topology names files verdict =
    within names word.Topology files.topology nothing (accepted (accept_topology files.topology) nothing (at_script names files verdict))

-- ---- the verdict

-- the verdict is right of a third text, where it is a journal
abbrev pub IsRightOn : Shape → Content → Verdict → Third → Type 0
IsRightOn topology script verdict (thirds.Schedule schedule) = Unit {0}
IsRightOn topology script verdict (thirds.Journal entries) = Judges (setting_by topology script) entries verdict

-- the verdict is right of the journal, where all three files are accepted
abbrev pub IsVerdict : Names → Files → Verdict → Type 0
IsVerdict names files verdict = (topology : Shape) (script : Content) (third : Third) → accept_topology files.topology ≡ Ok topology
    → accept_script (gates topology) files.script ≡ Ok script → accept_third names.task files.third ≡ Ok third → IsRightOn topology script verdict third
