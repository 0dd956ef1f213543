-- The headline of the top call, in the store's own words.
use Rattle.std.specs.Prelude.{◌≡◌, ◌<◌, ◌≤◌, ◌+◌, ◌^◌, ◌++◌, ◌⊎◌, ℕ, Bool, false, List, [], codes, length, reverse, slice_get, Option, Some, Ok, Err}
use Rattle.std.specs.Fmt.{decimal}
use Rattle.std.specs.List.{AllByRecursion}
use Rattle.ov_functor.specs.declared.item.Shown.{Shown}
use Rattle.ov_functor.specs.declared.item.Valued.{Valued}
use Rattle.ov_functor.specs.declared.reply.Reply.{Reply}
use Rattle.ov_functor.specs.declared.reply.Reply.TheVariants.{Snap}
use Rattle.ov_io.specs.Causes.{Rose, Wrote}
use Rattle.ov_topology.specs.Read.{topology_of}
use Rattle.ov_topology.specs.Shape.{Shape, gates}
use Rattle.ov_session.specs.Events.{floor_of}
use Rattle.ov_session.specs.declared.plan.SessionPlan.{SessionPlan}
use Rattle.ov_script.specs.Script.{Content, IsScript, script_text}
use Rattle.ov_script.specs.Schedule.{IsSchedule, schedule_text}
use Rattle.ov_script.specs.declared.step.Step.{Step}
use Rattle.ov_event.specs.declared.entry.Entry.{Entry}
use Rattle.ov_history.specs.Past.{History}
use Rattle.ov_history.specs.May.{Setting, Lawful}
use Rattle.ov_history.specs.Serial.{serial_at}
use Rattle.ov_follow.specs.Calm.{all_replied}
use Rattle.ov_follow.specs.Expected.{IsExpected}
use Rattle.ov_follow.specs.Whole.{IsWhole}
use Rattle.ov_laws.specs.Entries.{BeganAt, DrawnAfter, HasReply, IsSettled, RepliedAt, SnapsAfter}
use Rattle.ov_laws.specs.Replies.{Expected, IsPublished}
use Rattle.ov_laws.specs.Runs.{IsRun}
use Rattle.ov_laws.specs.Values.{SettledAlike}
use Rattle.ov_complete.specs.Once.{OnceEach}
use Rattle.ov_world.specs.World.{setting_by}
use Rattle.ov_world.specs.declared.story.Story.{Story}
use Rattle.ov_world.specs.Judging.{FirstRefused}
use Rattle.ov_make.specs.Made.{made_script, made_topology}
use Rattle.ov_report.specs.Summary.{summary_of, summary_text}
use Rattle.ov_journal.specs.Journal.{journal_of, journal_text}
use Rattle.ov_journal.specs.Line.{HasLine}
use Rattle.ov_journal.specs.declared.verdict.Verdict.TheVariants as verdicts
use Rattle.ov_top.specs.declared.names.Task.TheVariants.{Follow, Judge}
use Rattle.ov_top.specs.declared.refusal.FileWord.{FileWord}
use Rattle.ov_top.specs.declared.refusal.FileWord.TheVariants as word
use Rattle.ov_top.specs.declared.words.Order.{Order}
use Rattle.ov_top.specs.declared.words.Order.TheVariants.{Make}
use Rattle.ov_top.specs.Names.{Names, files_of, name_at}
use Rattle.ov_top.specs.Ending.{Files, history_text, limit, made_run, read_fault_text, run_of, verdict_text}
use Rattle.ov_top.specs.Causes.{Told, Counts, Agree}

-- ---- at every status

-- The headline, of a history of a topology and a script.
pub record Right (t : Setting) (h : History) : Type 0 where
  -- each entry could follow those before it, whatever letters were lost, repeated and reordered
  pub lawful : IsRun t h
  -- each reply to a command is what the script's command shows of the map that executing all begun transactions with lower versions, one at a time in the
  -- order of their versions, gives
  pub expected : (g s c : ℕ) (reply : Reply) → HasReply h g s c reply → IsExpected t.roster h s c reply
  -- a transaction's reply has the version at which the command began, and a snapshot's watermark is not below its floor
  pub begun : (g s c : ℕ) (reply : Reply) → HasReply h g s c reply → Expected h g s c reply
  -- a transaction that begins after a reply has the greater version, and after a snapshot's reply one that is not below its watermark
  pub later : (reply : Reply) (v : ℕ) → DrawnAfter h reply v → floor_of reply ≤ v
  -- a snapshot after a reply of its session shows it
  pub snaps : (s n : ℕ) (reply : Reply) → SnapsAfter h s reply n → floor_of reply ≤ n
  -- each settled value is that of its key just after its version, in the map of all begun transactions executed one at a time
  pub values : (x : Valued) → IsSettled h x → x.value ≡ serial_at h (x.version + 1) x.key
  -- and so two settled values of one version and key are equal, at whichever centres
  pub alike : SettledAlike h
  -- the watermark of each snapshot's reply is a published one
  pub watermark : (g s c n : ℕ) (list : List Shown) → HasReply h g s c (Snap n list) → IsPublished h n
  -- the commands of a session begin, and are replied, in the order of their numbers, each at most once
  pub begins : (i j s c d : ℕ) → i < j → BeganAt h i s c → BeganAt h j s d → c < d
  pub replies : (i j s c d : ℕ) → i < j → RepliedAt h i s c → RepliedAt h j s d → c < d

abbrev pub RightOf : Option Shape → Option Content → List Entry → Type 0
RightOf (Some topology) (Some script) entries = Right (setting_by topology script) (reverse entries)
RightOf topology script entries = entries ≡ []

-- the headline is true of the story; without a topology or a script it has no entry
abbrev pub IsRight : Story → Type 0
IsRight story = RightOf story.topology story.script story.entries

-- the entries of the story can be numbered
abbrev pub IsShort : Story → Type 0
IsShort story = length story.entries < 2 ^ 64

-- ---- statuses 0 and 1

-- The topology and the script are those whose texts the files are, and the story has them.
pub record Read (files : Files) (story : Story) : Type 0 where
  pub topology : Shape
  pub topology_is : topology_of files.topology ≡ Ok topology
  pub script : Content
  pub script_form : IsScript script
  pub script_gates : script.gateways ≡ gates topology
  pub script_is : files.script ≡ script_text script.lines
  pub told_topology : story.topology ≡ Some topology
  pub told_script : story.script ≡ Some script

-- What `step` did: the schedule is the one whose text the third file is, the history is that of the schedule, calmed, and its report was written, or
-- where it was asked for its journal.
pub record Performed (told : Told) (words : Option Names) (story : Story) (before after : Option (List ℕ)) : Type 0 where
  pub names : Names
  pub words_are : words ≡ Some names
  pub journal : Bool
  pub task_is : names.task ≡ Follow journal
  pub files : Files
  pub agree : Agree told names files
  pub read : Read files story
  pub schedule : List Step
  pub schedule_form : IsSchedule schedule
  pub schedule_is : files.third ≡ schedule_text schedule
  pub entries : story.entries ≡ reverse (run_of read.topology read.script schedule)
  pub wrote : Wrote before after (history_text journal read.script (reverse story.entries))

-- What `audit` did: the third file is the journal of the story's entries, which are lawful, and how many they are was written.
pub record Audited (told : Told) (words : Option Names) (story : Story) (before after : Option (List ℕ)) : Type 0 where
  pub names : Names
  pub words_are : words ≡ Some names
  pub task_is : names.task ≡ Judge
  pub files : Files
  pub agree : Agree told names files
  pub read : Read files story
  pub journal_is : files.third ≡ journal_text story.entries
  pub lawful : Lawful (setting_by read.topology read.script) (reverse story.entries)
  pub wrote : Wrote before after (verdict_text (length story.entries) verdicts.Lawful)

-- What `make` did: the story is that of the made script, whose topology, lines and history the number and the number of commands say, and its summary
-- was written.
pub record Summed (order : Option Order) (story : Story) (before after : Option (List ℕ)) : Type 0 where
  pub number : ℕ
  pub commands : ℕ
  pub order_is : order ≡ Some (Make number commands)
  pub topology : story.topology ≡ Some made_topology
  pub script : story.script ≡ Some (made_script number commands)
  pub entries : story.entries ≡ reverse (made_run number commands)
  pub wrote : Wrote before after (summary_text (summary_of story.script story.entries))

-- what was asked for was done
abbrev pub Did : Told → Option Order → Story → Option (List ℕ) → Option (List ℕ) → Type 0
Did told order story before after =
    Performed told (files_of order) story before after ⊎ (Audited told (files_of order) story before after ⊎ Summed order story before after)

-- A story with a topology and a script, which are these.
pub record Has (story : Story) (topology : Shape) (script : Content) : Type 0 where
  pub topology_is : story.topology ≡ Some topology
  pub script_is : story.script ≡ Some script

-- each command of the script began in exactly one entry, and was replied in exactly one
abbrev pub AllOnce : Story → Type 0
AllOnce story = (topology : Shape) (script : Content) → Has story topology script → (s c : ℕ) (plan : SessionPlan)
    → slice_get (setting_by topology script).roster.sessions s ≡ Some plan → c < length plan.planned → OnceEach (reverse story.entries) s (c + 1)

-- Some command is not replied, and some actor has stopped, so that the world is not whole.
pub record Waits (story : Story) : Type 0 where
  pub topology : Shape
  pub script : Content
  pub has : Has story topology script
  pub waiting : all_replied (setting_by topology script) (reverse story.entries) ≡ false
  pub broken : ¬ IsWhole topology (reverse story.entries)

-- ---- status 6

-- Why a journal is refused: its first line off the grammar, or the first of its entries that may not follow those before it. Its number was written.
abbrev pub RefusedBy : Files → Story → Option (List ℕ) → Option (List ℕ) → ℕ → Type 0
RefusedBy files story before after number =
    ((journal_of files.third ≡ Err number) × Wrote before after (codes "journal: line " ++ decimal number ++ codes "\n"))
    ⊎ ((journal_of files.third ≡ Ok story.entries) × (read : Read files story) × FirstRefused (setting_by read.topology read.script) story.entries number
    × Wrote before after (verdict_text (length story.entries) (verdicts.Refused number)))

-- The journal is refused.
pub record JournalRefused (told : Told) (words : Option Names) (story : Story) (before after : Option (List ℕ)) : Type 0 where
  pub names : Names
  pub words_are : words ≡ Some names
  pub task_is : names.task ≡ Judge
  pub files : Files
  pub agree : Agree told names files
  pub number : ℕ
  pub why : RefusedBy files story before after number

-- ---- status 7

-- The file word whose read failed: the shelf's count of that name rose, and the name was written.
pub record ReadFault (counts now : Counts) (words : Option Names) (before after : Option (List ℕ)) : Type 0 where
  pub names : Names
  pub words_are : words ≡ Some names
  pub word : FileWord
  pub rose : Rose (counts (name_at names word)) (now (name_at names word))
  pub wrote : Wrote before after (read_fault_text (name_at names word))

-- ---- completeness

-- The shelf tells a topology and a script in form.
pub record TextsInForm (told : Told) (names : Names) : Type 0 where
  pub topology : List ℕ
  pub topology_told : told names.topology ≡ Some topology
  pub topology_short : length topology ≤ limit word.Topology
  pub shape : Shape
  pub topology_is : topology_of topology ≡ Ok shape
  pub script : Content
  pub script_form : IsScript script
  pub script_gates : script.gateways ≡ gates shape
  pub script_told : told names.script ≡ Some (script_text script.lines)
  pub script_short : length (script_text script.lines) ≤ limit word.Script

-- The words ask to follow a schedule, and the shelf tells three files in form.
pub record InForm (told : Told) (words : Option Names) : Type 0 where
  pub names : Names
  pub words_are : words ≡ Some names
  pub journal : Bool
  pub task_is : names.task ≡ Follow journal
  pub texts : TextsInForm told names
  pub schedule : List Step
  pub schedule_form : IsSchedule schedule
  pub schedule_told : told names.third ≡ Some (schedule_text schedule)
  pub schedule_short : length (schedule_text schedule) ≤ limit word.Schedule

-- The words ask to judge a journal, and the shelf tells three files in form; the entries of the journal are lawful.
pub record InLawfulForm (told : Told) (words : Option Names) : Type 0 where
  pub names : Names
  pub words_are : words ≡ Some names
  pub task_is : names.task ≡ Judge
  pub texts : TextsInForm told names
  pub entries : List Entry
  pub lines : AllByRecursion HasLine entries
  pub journal_told : told names.third ≡ Some (journal_text entries)
  pub journal_short : length (journal_text entries) ≤ limit word.Journal
  pub lawful : Lawful (setting_by texts.shape texts.script) (reverse entries)

-- no count of a file word has risen
abbrev pub NoneRose : Counts → Counts → Option Names → Type 0
NoneRose counts now words = (names : Names) (word : FileWord) → words ≡ Some names → Rose (counts (name_at names word)) (now (name_at names word)) → ⊥

-- where the story has a topology, the world is whole at its end
abbrev pub IsWholeAtEnd : Story → Type 0
IsWholeAtEnd story = (topology : Shape) → story.topology ≡ Some topology → IsWhole topology (reverse story.entries)
