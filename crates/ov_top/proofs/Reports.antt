-- A report is whole exactly where every command is replied.
use Rattle.std.proofs.Common.{◌≡◌, ℕ, ◌+◌, ◌<◌, Bool, true, false, List, [], ◌∷◌, ◌++◌, length, refl, sym, ap, subst, ◌∙◌, arith, append_assoc, inl, inr}
use Rattle.std.specs.Prelude.{map, if◌then◌else◌}
use Rattle.std.proofs.lemmas.List.{reverse-reverse}
use Rattle.std.specs.List.{list_all}
use Rattle.std.proofs.lemmas.Bool.{and_parts}
use Rattle.std.proofs.lemmas.Option.{slice_get_within}
use Rattle.ov_topology.specs.Shape.{Shape}
use Rattle.ov_session.specs.declared.roster.Roster.{Roster}
use Rattle.ov_script.specs.Script.{Content, IsScript}
use Rattle.ov_script.specs.Sessions.{roster_of, order_of}
use Rattle.ov_script.specs.declared.order.CommandAt.{CommandAt}
use Rattle.ov_history.specs.Past.{History}
use Rattle.ov_history.specs.May.{Setting}
use Rattle.ov_follow.specs.Calm.{all_replied}
use Rattle.ov_follow.specs.Passes.{is_replied}
use Rattle.ov_complete.specs.Order.{AllAnswered, IsOrder}
use Rattle.ov_complete.proofs.Ending.{answered_first, each_from, order_all}
use Rattle.ov_complete.proofs.Scripts.{script_order}
use Rattle.ov_world.specs.World.{setting_by}
use Rattle.ov_world.specs.declared.story.Story.{Story}
use Rattle.ov_report.specs.Report.{is_answered, line_of, report_lines, story_lines}
use Rattle.ov_top.specs.Ending.{history_status, report_status, story_of}
use Rattle.ov_report.proofs.Shown.{answered}

-- two tests are equal where each follows from the other
same_tests : (b c : Bool) → (b ≡ true → c ≡ true) → (c ≡ true → b ≡ true) → b ≡ c
same_tests true c there back = sym (there refl)
same_tests false true there back = back refl
same_tests false false there back = refl

-- the lines of commands that are all replied are answered
lines_answered : (roster : Roster) (h : History) (order : List CommandAt) → AllAnswered h order → list_all is_answered (map (line_of roster h) order) ≡ true
lines_answered roster h [] all = refl
lines_answered roster h (one ∷ order) all =
    let first : is_answered (line_of roster h one) ≡ true = answered h one.session one.seq ∙ all one (inl refl) in
    rw (first, lines_answered roster h order (λ other among. all other (inr among))) refl

-- and where the lines are answered, the commands are replied
answered_lines : (roster : Roster) (h : History) (order : List CommandAt) → list_all is_answered (map (line_of roster h) order) ≡ true → AllAnswered h order
answered_lines roster h [] all = λ one among. absurd among
answered_lines roster h (one ∷ order) all =
    let parts = and_parts (is_answered (line_of roster h one)) (list_all is_answered (map (line_of roster h) order)) all in
    answered_first h one order (sym (answered h one.session one.seq) ∙ parts.0) (answered_lines roster h order parts.1)

-- where every command is replied, those of the order are
order_answered : (t : Setting) (h : History) (order : List CommandAt) → IsOrder t.roster order → all_replied t h ≡ true → (before rest : List CommandAt) → order ≡ before ++ rest
    → AllAnswered h rest
order_answered t h order is all before [] e = λ one among. absurd among
order_answered t h order is all before (one ∷ rest) e =
    let comes = is.comes before rest one e in
    let less : comes.place < length comes.plan.planned = slice_get_within comes.plan.planned comes.place comes.planned comes.there in
    let here : is_replied (one.session + 0) (comes.place + 1) h ≡ true = each_from 0 t.roster.sessions h one.session comes.place comes.plan all comes.session less in
    let session : one.session + 0 ≡ one.session = omega arith in
    let replied : is_replied one.session one.seq h ≡ true =
    subst (λ (c : ℕ). is_replied one.session c h ≡ true) (sym comes.number) (subst (λ (s : ℕ). is_replied s (comes.place + 1) h ≡ true) session here) in
    answered_first h one rest replied (order_answered t h order is all (before ++ one ∷ []) rest (e ∙ sym (append_assoc before (one ∷ []) rest)))

-- the report of a script is whole exactly where every command is replied
pub report_is_whole : (topology : Shape) (script : Content) (h : History) → IsScript script → list_all is_answered (report_lines script h) ≡ all_replied (setting_by topology script) h
report_is_whole topology script h is =
    let order = order_of script.lines in
    let ordered = script_order script is in
    same_tests (list_all is_answered (report_lines script h)) (all_replied (setting_by topology script) h)
    (λ all. order_all (setting_by topology script) order h ordered (answered_lines (roster_of script.lines) h order all))
    (λ all. lines_answered (roster_of script.lines) h order (order_answered (setting_by topology script) h order ordered all [] order refl))

-- the lines of the report of a run's story
pub lines_of_run : (topology : Shape) (script : Content) (h : History) (story : Story) → story ≡ story_of topology script h → story_lines story.script story.entries ≡ report_lines script h
lines_of_run topology script h story same = rw same (ap (report_lines script) (reverse-reverse h))

-- the status of the report of a run
pub status_of_run : (topology : Shape) (script : Content) (h : History) → IsScript script → report_status (report_lines script h) ≡ history_status topology script h
status_of_run topology script h is = ap (λ (b : Bool). if b then 0 else 1) (report_is_whole topology script h is)
