-- Worlds after passes and rounds, and after some first entries of them.
use Rattle.std.specs.Prelude.{◌≡◌, List, ◌++◌}
use Rattle.ov_event.specs.declared.entry.Entry.{Entry}
use Rattle.ov_history.specs.Past.{History}
use Rattle.ov_follow.specs.Calm.{Pass, passed}
use Rattle.ov_world.specs.World.{WorldState, setting_of}
use Rattle.ov_step.specs.Followed.{with_history}
use Rattle.ov_step.specs.Outstanding.{IsOutstanding}
use Rattle.ov_step.specs.declared.outstanding.Outstanding.{Outstanding}

-- The new world is the old one after these passes, and what is kept is of its history.
pub record Passed (passes : List Pass) (old new : WorldState) (kept : Outstanding) : Type 0 where
  pub passed_is : new ≡ with_history (passed (setting_of old) old.history passes) old
  pub kept_is : IsOutstanding (setting_of new) new.history kept

-- The new world is the old one with some first entries of this history, which goes on from the old one's.
pub record IsPart (whole : History) (old new : WorldState) : Type 0 where
  pub more : List Entry
  pub rest : List Entry
  pub goes_on : new.history ≡ more ++ old.history
  pub first : whole ≡ rest ++ new.history
  pub same : new ≡ with_history new.history old

-- the new world is the old one with some first entries of what these passes add
abbrev pub PassedInPart : List Pass → WorldState → WorldState → Type 0
PassedInPart passes old new = IsPart (passed (setting_of old) old.history passes) old new
