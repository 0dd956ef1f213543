-- Facts that stay while lines are followed, and what one of the lines makes.
use Rattle.std.proofs.Common.{◌≡◌, Bool, true, Option, Some, None, List, [], ◌∷◌, ◌++◌, refl, subst, inl, inr}
use Rattle.ov_functor.specs.Windows.{Among}
use Rattle.ov_event.specs.declared.entry.Entry.{Entry}
use Rattle.ov_history.specs.Past.{History}
use Rattle.ov_history.specs.May.{Setting}
use Rattle.ov_history.specs.Gives.{gives}
use Rattle.ov_history.specs.Cores.{onto}
use Rattle.ov_history.proofs.Given.{given_follows}
use Rattle.ov_follow.specs.Lines.{Line, followed, followed_all}
use Rattle.ov_follow.proofs.Lawful.{followed_lawful, all_lawful}
use Rattle.ov_laws.specs.Runs.{IsRun}
use Rattle.ov_complete.specs.Stable.{Stable, GiveOnly}

-- a run after a line
pub run_next : (t : Setting) (h : History) (line : Line) → IsRun t h → IsRun t (followed t h line)
run_next t h line run = (run.0, followed_lawful t h line run.0 run.1)

-- a run after lines
pub run_all : (t : Setting) (h : History) (lines : List Line) → IsRun t h → IsRun t (followed_all t h lines)
run_all t h lines run = (run.0, all_lawful t lines h run.0 run.1)

module _ {t : Setting} {test : Entry → Bool} {P : History → Type 0} (stable : Stable t test P) where
  -- a fact stays after a line
  pub keeps_line : (h : History) (line : Line) → IsRun t h → ((h : History) (e : Entry) → gives t h line.actor line.act ≡ Some e → test e ≡ true) → P h → P (followed t h line)
  keeps_line h line run only p = by (gives t h line.actor line.act) refl
    where
      by : (o : Option Entry) → gives t h line.actor line.act ≡ o → P (onto o h)
      by None is = p
      by (Some e) is = stable.keep h e run (given_follows t h line.actor line.act e run.0 is).0 (only h e is) p

  -- a fact stays after lines
  pub keeps : (h : History) (lines : List Line) → IsRun t h → GiveOnly t test lines → P h → P (followed_all t h lines)
  keeps h [] run only p = p
  keeps h (line ∷ lines) run only p = keeps (followed t h line) lines (run_next t h line run) only.1 (keeps_line h line run only.0 p)

-- What one of the lines makes of a fact stands after all of them, where both stay.
pub makes : {t : Setting} {test : Entry → Bool} {P D : History → Type 0} → Stable t test P → Stable t test D → (h : History) (lines : List Line) (line : Line)
    → IsRun t h → GiveOnly t test lines → Among line lines → ((x : History) → IsRun t x → P x → D (followed t x line)) → P h → D (followed_all t h lines)
makes {t} {test} {P} {D} p d h [] line run only among make is = absurd among
makes {t} {test} {P} {D} p d h (first ∷ lines) line run only (inl same) make is =
    keeps d (followed t h first) lines (run_next t h first run) only.1 (subst (λ (l : Line). D (followed t h l)) same (make h run is))
makes {t} {test} {P} {D} p d h (first ∷ lines) line run only (inr among) make is =
    makes p d (followed t h first) lines line (run_next t h first run) only.1 among make (keeps_line p h first run only.0 is)

-- a fact stays after lines, where each of them keeps it
pub keeps_among : {t : Setting} {P : History → Type 0} (h : History) (lines : List Line) → IsRun t h
    → ((line : Line) → Among line lines → (x : History) → IsRun t x → P x → P (followed t x line))
    → P h → P (followed_all t h lines)
keeps_among h [] run keep is = is
keeps_among {t} {P} h (line ∷ lines) run keep is =
    keeps_among (followed t h line) lines (run_next t h line run) (λ other among. keep other (inr among)) (keep line (inl refl) h run is)

-- ---- more lines

-- lines behind lines give what both give
pub give_both : (t : Setting) (test : Entry → Bool) (first others : List Line) → GiveOnly t test first → GiveOnly t test others → GiveOnly t test (first ++ others)
give_both t test [] others one other = other
give_both t test (line ∷ first) others one other = (one.0, give_both t test first others one.1 other)
