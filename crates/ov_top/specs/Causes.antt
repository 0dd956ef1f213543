-- How a call ends, over what a shelf tells and the counts of faults.
use Rattle.std.specs.Prelude.{◌≡◌, ◌≢◌, ℕ, List, [], Option, Some, None, Result, Ok, Err, ◌⊎◌, length, nat_le, if◌then◌else◌}
use Rattle.ov_base.specs.Word.{◌>>=◌}
use Rattle.ov_topology.specs.Shape.{gates}
use Rattle.ov_io.specs.Causes.{Rose, Agrees, Wrote, WroteFront}
use Rattle.ov_world.specs.declared.story.Story.{Story}
use Rattle.ov_journal.specs.declared.verdict.Verdict.{Verdict}
use Rattle.ov_top.specs.declared.refusal.FileWord.{FileWord}
use Rattle.ov_top.specs.declared.refusal.FileWord.TheVariants as word
use Rattle.ov_top.specs.declared.refusal.FormFault.{FormFault}
use Rattle.ov_top.specs.declared.words.Order.{Order}
use Rattle.ov_top.specs.declared.words.Order.TheVariants as orders
use Rattle.ov_top.specs.Names.{Names, audit_names, name_at, step_names}
use Rattle.ov_top.specs.Form.{accept_topology, accept_script}
use Rattle.ov_top.specs.Ending.{Files, Ending, IsPartOf, IsVerdict, at_topology, limit, made, nothing, read_fault_text, refused, story_of, usage_text, with_topology}

-- what a shelf tells of each name
abbrev pub Told : Type 0
Told = List ℕ → Option (List ℕ)

-- how often reads of each name have failed
abbrev pub Counts : Type 0
Counts = List ℕ → ℕ

-- The bytes agree with what is told of the file words.
pub record Agree (told : Told) (names : Names) (files : Files) : Type 0 where
  pub topology : Agrees (told names.topology) files.topology
  pub script : Agrees (told names.script) files.script
  pub third : Agrees (told names.third) files.third

-- ---- what is meant

-- By the order of work the command ends so, for files that agree with what is told, and the right verdict on the journal.
pub record Comes (told : Told) (names : Names) (end : Ending) : Type 0 where
  pub files : Files
  pub agree : Agree told names files
  pub verdict : Verdict
  pub right : IsVerdict names files verdict
  pub is : at_topology names files verdict ≡ end

-- a file within its limit is accepted
abbrev pub passes : {A : Type 0} → FileWord → List ℕ → Result A FormFault → Option A
passes which bytes (Ok value) = if nat_le (length bytes) (limit which) then Some value else None
passes which bytes (Err fault) = None

-- the story where the order of work comes to the third file
abbrev pub reached_third : Files → Option Story
reached_third files = do
  topology ← passes word.Topology files.topology (accept_topology files.topology)
  script ← passes word.Script files.script (accept_script (gates topology) files.script)
  Some (story_of topology script [])

-- the story where the order of work comes to this file
abbrev pub reached : FileWord → Files → Option Story
reached word.Topology files = Some nothing
reached word.Script files = passes word.Topology files.topology (accept_topology files.topology) >>= λ topology. Some (with_topology topology)
reached word.Schedule files = reached_third files
reached word.Journal files = reached_third files

-- A read has failed: the order of work came to a file word, and the count of that name rose.
pub record Faulted (told : Told) (counts now : Counts) (names : Names) (end : Ending) : Type 0 where
  pub word : FileWord
  pub files : Files
  pub agree : Agree told names files
  pub story : Story
  pub reached_is : reached word files ≡ Some story
  pub rose : Rose (counts (name_at names word)) (now (name_at names word))
  pub is : refused 7 (read_fault_text (name_at names word)) story ≡ end

-- what is meant with these file words
abbrev pub Meant : Told → Counts → Counts → Names → Ending → Type 0
Meant told counts now names end = Comes told names end ⊎ Faulted told counts now names end

-- what is meant with an order: the run of the made script, or what is meant with the files
abbrev pub MeantWith : Told → Counts → Counts → Order → Ending → Type 0
MeantWith told counts now (orders.Step journal topology script schedule) end = Meant told counts now (step_names journal topology script schedule) end
MeantWith told counts now (orders.Audit topology script journal) end = Meant told counts now (audit_names topology script journal) end
MeantWith told counts now (orders.Make number commands) end = made number commands ≡ end

-- what is meant with words that ask for this; where they are no order it is the usage text
abbrev pub MeantBy : Told → Counts → Counts → Option Order → Ending → Type 0
MeantBy told counts now None end = refused 2 usage_text nothing ≡ end
MeantBy told counts now (Some order) end = MeantWith told counts now order end

-- ---- what was done

-- A call that was meant to end so did, unless the sink failed (8) or memory ran out (9). In any case a prefix of the text that was meant was written;
-- the story is the one that was meant, and at 9 a part of it.
pub record EndsAs (end : Ending) (status : ℕ) (story : Story) (before after : Option (List ℕ)) : Type 0 where
  pub status_is : status ≢ 8 → status ≢ 9 → status ≡ end.status
  pub wrote : status ≢ 8 → status ≢ 9 → Wrote before after end.text
  pub wrote_front : WroteFront before after end.text
  pub story_is : status ≢ 9 → story ≡ end.story
  pub part : IsPartOf story end.story

-- How a call ended: as one of the ends that are meant.
pub record Ends (Means : Ending → Type 0) (status : ℕ) (story : Story) (before after : Option (List ℕ)) : Type 0 where
  pub end : Ending
  pub meant : Means end
  pub came : EndsAs end status story before after

-- ---- the writing half

-- A text was put: all of it at the status that was meant, else a prefix of it. The sink's count rises only where the status says that a put failed.
pub record Puts (meant : ℕ) (text : List ℕ) (status : ℕ) (count now : ℕ) (before after : Option (List ℕ)) : Type 0 where
  pub whole : status ≢ 8 → status ≢ 9 → (status ≡ meant) × Wrote before after text
  pub failed : status ≡ 8 → meant ≢ 8 → Rose count now
  pub quiet : status ≢ 8 → now ≡ count
  pub front : WroteFront before after text
