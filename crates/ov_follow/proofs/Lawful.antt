-- What is followed of a lawful history is lawful.
use Rattle.std.proofs.Common.{◌≡◌, ◌==◌, ℕ, zero, suc, Bool, true, false, Option, Some, None, List, [], ◌∷◌, refl}
use Rattle.std.specs.Prelude.{if◌then◌else◌}
use Rattle.ov_topology.specs.Shape.{IsShape}
use Rattle.ov_script.specs.declared.step.Step.{Step}
use Rattle.ov_event.specs.declared.entry.Entry.{Entry}
use Rattle.ov_history.specs.Past.{History}
use Rattle.ov_history.specs.May.{Setting, Lawful}
use Rattle.ov_history.specs.Gives.{gives}
use Rattle.ov_history.specs.Cores.{onto}
use Rattle.ov_history.proofs.Given.{given_follows}
use Rattle.ov_follow.specs.Lines.{Line, line_of, followed, followed_all, followed_some, follow, drive}
use Rattle.ov_follow.specs.Calm.{Pass, passed, round_passes, calm_round, all_replied, replies, calm_rounds}

-- after a line
pub followed_lawful : (t : Setting) (h : History) (line : Line) → IsShape t.topology → Lawful t h → Lawful t (followed t h line)
followed_lawful t h line shape lawful = by (gives t h line.actor line.act) refl
  where
    by : (given : Option Entry) → gives t h line.actor line.act ≡ given → Lawful t (onto given h)
    by None is = lawful
    by (Some e) is = (lawful, (given_follows t h line.actor line.act e shape is).0)

-- after lines
pub all_lawful : (t : Setting) (lines : List Line) (h : History) → IsShape t.topology → Lawful t h → Lawful t (followed_all t h lines)
all_lawful t [] h shape lawful = lawful
all_lawful t (line ∷ lines) h shape lawful = all_lawful t lines (followed t h line) shape (followed_lawful t h line shape lawful)

-- after a line of a schedule
follow_lawful : (t : Setting) (h : History) (step : Step) → IsShape t.topology → Lawful t h → Lawful t (follow t h step)
follow_lawful t h step shape lawful = by (line_of t.roster step)
  where
    by : (line : Option Line) → Lawful t (followed_some t h line)
    by None = lawful
    by (Some line) = followed_lawful t h line shape lawful

-- after a schedule
pub drive_lawful : (t : Setting) (schedule : List Step) (h : History) → IsShape t.topology → Lawful t h → Lawful t (drive t h schedule)
drive_lawful t [] h shape lawful = lawful
drive_lawful t (step ∷ schedule) h shape lawful = drive_lawful t schedule (follow t h step) shape (follow_lawful t h step shape lawful)

-- after passes
pub passed_lawful : (t : Setting) (passes : List Pass) (h : History) → IsShape t.topology → Lawful t h → Lawful t (passed t h passes)
passed_lawful t [] h shape lawful = lawful
passed_lawful t (pass ∷ passes) h shape lawful = passed_lawful t passes (followed_all t h (pass t h)) shape (all_lawful t (pass t h) h shape lawful)

-- after a calm round
pub round_lawful : (t : Setting) (h : History) → IsShape t.topology → Lawful t h → Lawful t (calm_round t h)
round_lawful t h shape lawful = passed_lawful t round_passes h shape lawful

-- after calm rounds
pub rounds_lawful : (n : ℕ) (t : Setting) (h : History) → IsShape t.topology → Lawful t h → Lawful t (calm_rounds n t h)
rounds_lawful zero t h shape lawful = lawful
rounds_lawful (suc n) t h shape lawful = by (all_replied t h) (replies (calm_round t h) == replies h) (round_lawful t h shape lawful) (rounds_lawful n t (calm_round t h) shape (round_lawful t h shape lawful))
  where
    by : (all none : Bool) → Lawful t (calm_round t h) → Lawful t (calm_rounds n t (calm_round t h))
        → Lawful t (if all then h else (if none then calm_round t h else calm_rounds n t (calm_round t h)))
    by true none one more = lawful
    by false true one more = one
    by false false one more = more
