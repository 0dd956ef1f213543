-- Passes one after another, and some first entries of what they add.
use Rattle.std.proofs.Common.{◌≡◌, List, [], ◌∷◌, ◌++◌, refl, sym, ap, ◌∙◌}
use Rattle.std.proofs.lemmas.List.{append-nil, append_assoc}
use Rattle.ov_event.specs.declared.entry.Entry.{Entry}
use Rattle.ov_history.specs.Past.{History}
use Rattle.ov_history.specs.May.{Setting}
use Rattle.ov_follow.specs.Calm.{Pass, passed}
use Rattle.ov_follow.specs.Lines.{Line, followed_all}
use Rattle.ov_world.specs.World.{WorldState, setting_of}
use Rattle.ov_step.specs.Followed.{Followed, FollowedInPart, with_history}
use Rattle.ov_step.specs.Outstanding.{IsOutstanding}
use Rattle.ov_step.specs.Parts.{Passed, IsPart, PassedInPart}
use Rattle.ov_step.specs.declared.outstanding.Outstanding.{Outstanding}
use Rattle.ov_follow.proofs.Following.{followed_behind}
use Rattle.ov_step.proofs.Seeing.{GoesOn, lines_go_on}

-- ---- histories that go on

-- what goes on from a history that goes on
pub goes_on_through : (first second third : History) → GoesOn first second → GoesOn second third → GoesOn first third
goes_on_through first second third one other =
    record { more = other.more ++ one.more; is = other.is ∙ ap (λ (h : History). other.more ++ h) one.is ∙ sym (append_assoc other.more one.more first) }

-- the history after passes goes on from the one before
pub passes_go_on : (t : Setting) (h : History) (passes : List Pass) → GoesOn h (passed t h passes)
passes_go_on t h [] = record { more = []; is = refl }
passes_go_on t h (pass ∷ passes) =
    goes_on_through h (followed_all t h (pass t h)) (passed t h (pass ∷ passes)) (lines_go_on t h (pass t h)) (passes_go_on t (followed_all t h (pass t h)) passes)

-- passes behind passes
pub passed_behind : (t : Setting) (h : History) (first others : List Pass) → passed t h (first ++ others) ≡ passed t (passed t h first) others
passed_behind t h [] others = refl
passed_behind t h (pass ∷ first) others = passed_behind t (followed_all t h (pass t h)) first others

-- ---- some first entries

-- none yet
pub part_none : (whole : History) (old new : WorldState) → new ≡ old → GoesOn old.history whole → IsPart whole old new
part_none whole old new same on = rw same (record { more = []; rest = on.more; goes_on = refl; first = on.is; same = refl })

-- some of what goes on further
pub part_longer : (short whole : History) (old new : WorldState) → GoesOn short whole → IsPart short old new → IsPart whole old new
part_longer short whole old new on part = record {
  more = part.more;
  rest = on.more ++ part.rest;
  goes_on = part.goes_on;
  first = on.is ∙ ap (λ (h : History). on.more ++ h) part.first ∙ sym (append_assoc on.more part.rest new.history);
  same = part.same;
}

-- some of what is added to a world that was added to
pub part_later : (whole : History) (old here new : WorldState) → GoesOn old.history here.history → here ≡ with_history here.history old → IsPart whole here new → IsPart whole old new
part_later whole old here new on is part = record {
  more = part.more ++ on.more;
  rest = part.rest;
  goes_on = part.goes_on ∙ ap (λ (h : History). part.more ++ h) on.is ∙ sym (append_assoc part.more on.more old.history);
  first = part.first;
  same = part.same ∙ ap (λ (w : WorldState). with_history new.history w) is;
}

-- some first lines add some first entries
pub part_of_lines : (lines : List Line) (old new : WorldState) → FollowedInPart lines old new → IsPart (followed_all (setting_of old) old.history lines) old new
part_of_lines lines old new part =
    let h = old.history in
    let t = setting_of old in
    let on = lines_go_on t h part.done in
    let rest = lines_go_on t (followed_all t h part.done) part.rest in
    rw (part.split, followed_behind t h part.done part.rest, part.followed)
    (record { more = on.more; rest = rest.more; goes_on = on.is; first = rest.is; same = refl })

-- ---- passes

-- one pass, whose lines were followed
pub passed_one : (pass : Pass) (old new : WorldState) (kept : Outstanding) → Followed (pass (setting_of old) old.history) old new → IsOutstanding (setting_of new) new.history kept → Passed (pass ∷ []) old new kept
passed_one pass old new kept followed is = record { passed_is = followed; kept_is = is }

-- passes, and then others
pub passed_both : (first others : List Pass) (old here new : WorldState) (kept last : Outstanding) → Passed first old here kept → Passed others here new last → Passed (first ++ others) old new last
passed_both first others old here new kept last one other = record {
  passed_is = rw (other.passed_is, one.passed_is, passed_behind (setting_of old) old.history first others) refl;
  kept_is = other.kept_is;
}

-- nothing of a pass
pub passes_none : (passes : List Pass) (old new : WorldState) → new ≡ old → PassedInPart passes old new
passes_none passes old new same = part_none (passed (setting_of old) old.history passes) old new same (passes_go_on (setting_of old) old.history passes)

-- some first lines of a pass
pub passed_some : (pass : Pass) (old new : WorldState) → FollowedInPart (pass (setting_of old) old.history) old new → PassedInPart (pass ∷ []) old new
passed_some pass old new part = part_of_lines (pass (setting_of old) old.history) old new part

-- some of what the first passes add
pub passed_some_first : (first others : List Pass) (old new : WorldState) → PassedInPart first old new → PassedInPart (first ++ others) old new
passed_some_first first others old new part =
    let t = setting_of old in
    rw (passed_behind t old.history first others)
    (part_longer (passed t old.history first) (passed t (passed t old.history first) others) old new (passes_go_on t (passed t old.history first) others) part)

-- some of what the others add
pub passed_some_second : (first others : List Pass) (old here new : WorldState) (kept : Outstanding) → Passed first old here kept → PassedInPart others here new → PassedInPart (first ++ others) old new
passed_some_second first others old here new kept one part =
    let t = setting_of old in
    let there : passed t old.history (first ++ others) ≡ passed (setting_of here) here.history others = rw (one.passed_is) (passed_behind t old.history first others) in
    let on : GoesOn old.history here.history = rw one.passed_is (passes_go_on t old.history first) in
    let same : here ≡ with_history here.history old = rw one.passed_is refl in
    rw there (part_later (passed (setting_of here) here.history others) old here new on same part)

-- all lines of a pass
pub passed_whole : (pass : Pass) (old new : WorldState) → Followed (pass (setting_of old) old.history) old new → PassedInPart (pass ∷ []) old new
passed_whole pass old new followed =
    passed_some pass old new (record { done = pass (setting_of old) old.history; rest = []; split = sym (append-nil (pass (setting_of old) old.history)); followed = followed })

-- ---- what is kept

-- what is kept of a world before lines, and then of what they added, is kept of the world after them
pub kept_after : (lines : List Line) (old new : WorldState) (before after : Outstanding) → Followed lines old new
    → ((h : History) (more : List Entry) → new.history ≡ more ++ h → IsOutstanding (setting_of new) h before → IsOutstanding (setting_of new) new.history after)
    → IsOutstanding (setting_of old) old.history before → IsOutstanding (setting_of new) new.history after
kept_after lines old new before after followed caught kept =
    let on = lines_go_on (setting_of old) old.history lines in
    let is : new.history ≡ on.more ++ old.history = rw followed on.is in
    let still : IsOutstanding (setting_of new) old.history before = rw followed kept in
    caught old.history on.more is still
