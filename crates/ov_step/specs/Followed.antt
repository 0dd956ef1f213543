-- A world after lines that were followed.
use Rattle.std.specs.Prelude.{◌≡◌, List, ◌++◌}
use Rattle.ov_script.specs.declared.step.Step.{Step}
use Rattle.ov_history.specs.Past.{History}
use Rattle.ov_follow.specs.Lines.{Line, drive, followed_all}
use Rattle.ov_world.specs.World.{WorldState, setting_of}

-- the world with another history
abbrev pub with_history : History → WorldState → WorldState
with_history h w = record w { history = h }

-- the new world is the old one after all lines of the schedule
abbrev pub Driven : List Step → WorldState → WorldState → Type 0
Driven schedule old new = new ≡ with_history (drive (setting_of old) old.history schedule) old

-- The new world is the old one after some first lines of the schedule.
pub record DrivenInPart (schedule : List Step) (old new : WorldState) : Type 0 where
  pub done : List Step
  pub rest : List Step
  pub split : schedule ≡ done ++ rest
  pub driven : Driven done old new

-- the new world is the old one after all these lines
abbrev pub Followed : List Line → WorldState → WorldState → Type 0
Followed lines old new = new ≡ with_history (followed_all (setting_of old) old.history lines) old

-- The new world is the old one after some first of these lines.
pub record FollowedInPart (lines : List Line) (old new : WorldState) : Type 0 where
  pub done : List Line
  pub rest : List Line
  pub split : lines ≡ done ++ rest
  pub followed : Followed done old new
