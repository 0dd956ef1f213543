-- What the words ask for: a task, and the files for it by what names them.
use Rattle.std.specs.Prelude.{ℕ, Bool, List, Option, Some, None}
use Rattle.ov_base.specs.Word.{◌>>=◌}
use Rattle.ov_top.specs.Words.{order_of}
use Rattle.ov_top.specs.declared.refusal.FileWord.{FileWord}
use Rattle.ov_top.specs.declared.refusal.FileWord.TheVariants as word
use Rattle.ov_top.specs.declared.names.FileNames.{FileNames}
use Rattle.ov_top.specs.declared.names.Task.{Task}
use Rattle.ov_top.specs.declared.names.Task.TheVariants.{Follow, Judge}
use Rattle.ov_top.specs.declared.words.Order.{Order}
use Rattle.ov_top.specs.declared.words.Order.TheVariants as orders

-- What is to be done, and the words that name the files for it; the third is the schedule or the journal.
pub record Names : Type 0 where
  pub task : Task
  pub topology : List ℕ
  pub script : List ℕ
  pub third : List ℕ

-- what is seen of the code's file words
abbrev pub names_seen : FileNames → Names
names_seen names = record { task = names.task; topology = names.topology.now; script = names.script.now; third = names.third.now }

-- the word that names this file
abbrev pub name_at : Names → FileWord → List ℕ
name_at names word.Topology = names.topology
name_at names word.Script = names.script
name_at names word.Schedule = names.third
name_at names word.Journal = names.third

-- which the third file is
abbrev pub third_word : Task → FileWord
third_word (Follow journal) = word.Schedule
third_word Judge = word.Journal

-- what is to be done, and the files for it, where an order to follow a schedule names these
abbrev pub step_names : Bool → List ℕ → List ℕ → List ℕ → Names
step_names journal topology script schedule = record { task = Follow journal; topology = topology; script = script; third = schedule }

-- and where an order to judge a journal does
abbrev pub audit_names : List ℕ → List ℕ → List ℕ → Names
audit_names topology script journal = record { task = Judge; topology = topology; script = script; third = journal }

-- the files that an order names; one to make a script names none
abbrev pub names_in : Order → Option Names
names_in (orders.Step journal topology script schedule) = Some (step_names journal topology script schedule)
names_in (orders.Audit topology script journal) = Some (audit_names topology script journal)
names_in (orders.Make number commands) = None

-- the files of an order, where there is one
abbrev pub files_of : Option Order → Option Names
files_of order = order >>= names_in

-- the files that the words name, where they are an order that names some
abbrev pub file_words : List (List ℕ) → Option Names
file_words words = files_of (order_of words)

-- the order is to make a script
abbrev pub IsMake : Option Order → Type 0
IsMake None = ⊥
IsMake (Some (orders.Step journal topology script schedule)) = ⊥
IsMake (Some (orders.Audit topology script journal)) = ⊥
IsMake (Some (orders.Make number commands)) = Unit {0}

-- the task is to judge a journal
abbrev pub IsJudge : Task → Type 0
IsJudge (Follow journal) = ⊥
IsJudge Judge = Unit {0}

-- the words are an order to judge a journal
abbrev pub IsAudit : Option Names → Type 0
IsAudit None = ⊥
IsAudit (Some names) = IsJudge names.task
