-- Schedules line by line.
use Rattle.std.proofs.Common.{◌≡◌, ℕ, ◌+◌, ◌<◌, List, [], ◌∷◌, ◌++◌, length, take, get_or, refl, sym}
use Rattle.std.proofs.lemmas.List.{take_more}
use Rattle.ov_script.specs.declared.step.Step.{Step}
use Rattle.ov_history.specs.Past.{History}
use Rattle.ov_history.specs.May.{Setting}
use Rattle.ov_follow.specs.Lines.{drive, follow}
use Rattle.ov_world.specs.World.{WorldState, setting_of}
use Rattle.ov_step.specs.Followed.{Driven, with_history}

-- a schedule behind another one
pub drive_behind : (t : Setting) (h : History) (first others : List Step) → drive t h (first ++ others) ≡ drive t (drive t h first) others
drive_behind t h [] others = refl
drive_behind t h (step ∷ first) others = drive_behind t (follow t h step) first others

-- one line more
pub driven_next : (schedule : List Step) (k : ℕ) (step : Step) (old here new : WorldState) → k < length schedule → step ≡ get_or schedule k step → Driven (take k schedule) old here
    → new ≡ with_history (follow (setting_of here) here.history step) here → Driven (take (k + 1) schedule) old new
driven_next schedule k step old here new within read driven next =
    rw (take_more schedule k step within, sym read, drive_behind (setting_of old) old.history (take k schedule) (step ∷ []), next, driven) refl
