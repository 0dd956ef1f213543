-- What was asked for is done: the end that is meant with the texts that are accepted.
use Rattle.std.specs.Prelude.{ℕ, List, Option}
use Rattle.ov_topology.specs.Shape.{Shape}
use Rattle.ov_script.specs.Script.{Content}
use Rattle.ov_event.specs.declared.entry.Entry.{Entry}
use Rattle.ov_journal.specs.Audit.{Judges}
use Rattle.ov_journal.specs.declared.verdict.Verdict.{Verdict}
use Rattle.ov_world.specs.World.{setting_by}
use Rattle.ov_world.specs.declared.story.Story.{Story}
use Rattle.ov_top.specs.declared.names.Task.{Task}
use Rattle.ov_top.specs.declared.prepare.Accepted.{Accepted}
use Rattle.ov_top.specs.Causes.{EndsAs}
use Rattle.ov_top.specs.Ending.{IsRightOn, ended, judged}

-- A call that was to do its task with these texts so did, with the right verdict where it judged.
pub record Performs (task : Task) (texts : Accepted) (status : ℕ) (story : Story) (before after : Option (List ℕ)) : Type 0 where
  pub verdict : Verdict
  pub right : IsRightOn texts.topology texts.script verdict texts.third
  pub came : EndsAs (ended task verdict texts.topology texts.script texts.third) status story before after

-- A call that was to judge these entries so did, with the right verdict.
pub record EndsJudged (topology : Shape) (script : Content) (entries : List Entry) (status : ℕ) (story : Story) (before after : Option (List ℕ)) : Type 0 where
  pub verdict : Verdict
  pub right : Judges (setting_by topology script) entries verdict
  pub came : EndsAs (judged topology script entries verdict) status story before after
