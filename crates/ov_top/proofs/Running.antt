-- What a run leaves in a story, whole or in part.
use Rattle.std.specs.List.{AllByRecursion}
use Rattle.std.proofs.Common.{◌≡◌, ◌≢◌, arith, ℕ, ◌<◌, ◌^◌, List, [], ◌∷◌, ◌++◌, length, Option, Some, None, refl, sym, ap, subst, ◌∙◌, inl, reverse}
use Rattle.std.proofs.lemmas.List.{length-reverse, reverse-append, reverse-reverse}
use Rattle.ov_topology.specs.Shape.{Shape}
use Rattle.ov_script.specs.Script.{Content}
use Rattle.ov_script.specs.declared.step.Step.{Step}
use Rattle.ov_event.specs.declared.entry.Entry.{Entry}
use Rattle.ov_history.specs.Past.{History}
use Rattle.ov_history.specs.May.{Setting}
use Rattle.ov_follow.specs.Calm.{calm}
use Rattle.ov_follow.specs.Lines.{Line, drive, follow, followed_some, line_of}
use Rattle.ov_world.specs.Holds.{Holds}
use Rattle.ov_world.specs.World.{WorldState, setting_by, setting_of}
use Rattle.ov_world.specs.declared.story.Story.{Story}
use Rattle.ov_step.specs.Followed.{Driven, DrivenInPart, with_history}
use Rattle.ov_step.specs.Parts.{IsPart}
use Rattle.ov_step.proofs.Calming.{way_none}
use Rattle.ov_step.proofs.Driving.{drive_behind}
use Rattle.ov_step.proofs.Parting.{goes_on_through, part_later}
use Rattle.ov_step.proofs.Seeing.{GoesOn, lines_go_on}
use Rattle.ov_topology.specs.Shape.{IsShape}
use Rattle.ov_script.specs.Script.{IsScript}
use Rattle.ov_world.proofs.Promises.{holds}
use Rattle.ov_journal.specs.Audit.{Judges}
use Rattle.ov_journal.specs.Line.{HasLine}
use Rattle.ov_journal.specs.declared.verdict.Verdict.{Verdict}
use Rattle.ov_journal.specs.declared.verdict.Verdict.TheVariants.{Lawful, Refused}
use Rattle.ov_journal.proofs.Lawful.{journal_lines}
use Rattle.ov_top.specs.Ending.{IsPartOf, story_of, verdict_status}
use Rattle.ov_top.specs.Headline.{Has, IsRight, IsShort, Right, RightOf}
use Rattle.ov_top.proofs.Replies.{right_holds}

-- ---- histories that go on

-- the history after a schedule goes on from the one before
drive_goes_on : (t : Setting) (h : History) (schedule : List Step) → GoesOn h (drive t h schedule)
drive_goes_on t h [] = record { more = []; is = refl }
drive_goes_on t h (step ∷ schedule) =
    goes_on_through h (follow t h step) (drive t h (step ∷ schedule)) (by (line_of t.roster step)) (drive_goes_on t (follow t h step) schedule)
  where
    by : (line : Option Line) → GoesOn h (followed_some t h line)
    by None = record { more = []; is = refl }
    by (Some line) = lines_go_on t h (line ∷ [])

-- so does the history after calm rounds
calm_goes_on : (w : WorldState) → GoesOn w.history (calm (setting_of w) w.history)
calm_goes_on w =
    let part = way_none w w refl in
    record { more = part.rest; is = part.first }

-- ---- worlds

-- what a schedule, and then calm rounds, make of a world's history
abbrev pub run_from : List Step → WorldState → History
run_from schedule old = calm (setting_of old) (drive (setting_of old) old.history schedule)

-- some first lines of the schedule make some first entries of the run
pub part_of_schedule : (schedule : List Step) (old new : WorldState) → DrivenInPart schedule old new → IsPart (run_from schedule old) old new
part_of_schedule schedule old new part =
    let t = setting_of old in
    let some = drive t old.history part.done in
    let driven = drive t old.history schedule in
    let both : driven ≡ drive t some part.rest = ap (drive t old.history) part.split ∙ drive_behind t old.history part.done part.rest in
    let first = drive_goes_on t old.history part.done in
    let further : GoesOn some driven = subst (GoesOn some) (sym both) (drive_goes_on t some part.rest) in
    let all = goes_on_through some driven (calm t driven) further (calm_goes_on (with_history driven old)) in
    rw part.driven (record { more = first.more; rest = all.more; goes_on = first.is; first = all.is; same = refl })

-- the whole schedule, and some first entries of calm rounds, are some first entries of the run
pub part_of_calm : (schedule : List Step) (old here new : WorldState) → Driven schedule old here → IsPart (calm (setting_of here) here.history) here new → IsPart (run_from schedule old) old new
part_of_calm schedule old here new driven part =
    let on = drive_goes_on (setting_of old) old.history schedule in
    part_later (run_from schedule old) old here new (rw driven on) (rw driven refl) (subst (λ (w : WorldState). IsPart (calm (setting_of w) w.history) here new) driven part)

-- ---- stories

-- The story tells this topology, script and history.
pub record Tells (story : Story) (topology : Shape) (script : Content) (h : History) : Type 0 where
  pub topology_is : story.topology ≡ Some topology
  pub script_is : story.script ≡ Some script
  pub entries_are : story.entries ≡ reverse h

-- the story of a world in which nothing had been done, after a part of the run
pub tells_part : (story : Story) (topology : Shape) (script : Content) (whole : History) (new : WorldState) → Tells story new.topology new.script new.history
    → IsPart whole (record { topology = topology; script = script; history = [] }) new → IsPartOf story (story_of topology script whole)
tells_part story topology script whole new tells part =
    let first : story.topology ≡ Some topology = tells.topology_is ∙ ap (λ (w : WorldState). Some w.topology) part.same in
    let second : story.script ≡ Some script = tells.script_is ∙ ap (λ (w : WorldState). Some w.script) part.same in
    let split : reverse whole ≡ story.entries ++ reverse part.rest =
    ap reverse part.first ∙ reverse-append part.rest new.history ∙ ap (λ (es : List Entry). es ++ reverse part.rest) (sym tells.entries_are) in
    record { topology = inl first; script = inl second; both = inl (first, second); entries = (story.entries, reverse part.rest, split, refl) }

-- the headline is true of what a world tells
pub tells_right : (story : Story) (topology : Shape) (script : Content) (h : History) → Tells story topology script h → Holds (setting_by topology script) h → IsRight story
tells_right story topology script h tells holds =
    rw (tells.topology_is, tells.script_is, tells.entries_are) (subst (Right (setting_by topology script)) (sym (reverse-reverse h)) (right_holds (setting_by topology script) h holds))

-- the story of a topology and a script is right
same_right : (topology : Option Shape) (script : Option Content) (entries : List Entry) (t : Shape) (s : Content) → topology ≡ Some t → script ≡ Some s → RightOf topology script entries
    → Right (setting_by t s) (reverse entries)
same_right topology script entries t s a b right = rw (a, b) at right

-- the headline, of a story that has this topology and this script
pub right_has : (story : Story) (topology : Shape) (script : Content) → IsRight story → Has story topology script → Right (setting_by topology script) (reverse story.entries)
right_has story topology script right has = same_right story.topology story.script story.entries topology script has.topology_is has.script_is right

-- each entry of a run has a line
pub run_lines : (story : Story) (topology : Shape) (script : Content) (h : History) → story ≡ story_of topology script h → IsScript script → IsRight story → IsShort story
    → AllByRecursion HasLine story.entries
run_lines story topology script h same form right short =
    let has : Has story topology script = record { topology_is = ap (λ (s : Story). s.topology) same; script_is = ap (λ (s : Story). s.script) same } in
    let few : length (reverse story.entries) < 2 ^ 64 = subst (λ (n : ℕ). n < 2 ^ 64) (sym (length-reverse story.entries)) short in
    subst (AllByRecursion HasLine) (reverse-reverse story.entries) (journal_lines topology script (reverse story.entries) form (right_has story topology script right has).lawful few)

-- the headline is true of a journal that was judged lawful
pub judged_right : (topology : Shape) (script : Content) (entries : List Entry) (verdict : Verdict) (status : ℕ) → IsShape topology → Judges (setting_by topology script) entries verdict
    → (status ≢ 8 → status ≢ 9 → status ≡ verdict_status verdict) → status ≡ 0 → Right (setting_by topology script) (reverse entries)
judged_right topology script entries Lawful status shape right says zero = right_holds (setting_by topology script) (reverse entries) (holds (setting_by topology script) (reverse entries) (shape, right))
judged_right topology script entries (Refused number) status shape right says zero =
    absurd (let six : status ≡ 6 = says (λ h. omega (arith, h, zero)) (λ h. omega (arith, h, zero)) in omega (arith, six, zero))
