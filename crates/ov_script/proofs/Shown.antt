-- What is printed of the lines that a script keeps is their text.
use Rattle.std.proofs.Common.{◌≡◌, ℕ, List, [], ◌∷◌, ◌++◌, Result, refl, ap, subst, ◌∙◌}
use Rattle.std.specs.List.{AllByRecursion, flat_map}
use Rattle.ov_base.specs.Word.{Printed}
use Rattle.ov_session.specs.declared.after.After as waits
use Rattle.ov_session.specs.declared.roster.Roster.{Roster}
use Rattle.ov_script.specs.Line.{IsLine}
use Rattle.ov_script.specs.Script.{Content, Follow, script_text}
use Rattle.ov_script.specs.Written.{lines_at, kept_text, IsWithin, IsShown, IsKept}
use Rattle.ov_script.specs.declared.line.ScriptLine.{ScriptLine}
use Rattle.ov_script.specs.declared.order.CommandAt.{CommandAt}
use Rattle.ov_script.specs.declared.written.Written.{Written}

-- the lines of a script are in form, each
pub each_line : (gateways : ℕ) (before lines : List ScriptLine) → Follow gateways before lines → AllByRecursion IsLine lines
each_line gateways before [] h = tt
each_line gateways before (line ∷ lines) h = (h.0, each_line gateways (before ++ line ∷ []) lines h.2)

each_shown : (roster : Roster) (written : List Written) → AllByRecursion (IsWithin roster) written → AllByRecursion IsLine (lines_at roster written) → AllByRecursion (IsShown roster) written
each_shown roster [] h k = tt
each_shown roster (w ∷ written) h k = ((h.0, k.0), each_shown roster written h.1 k.1)

pub kept_shown : (gateways : ℕ) (names : List (List ℕ)) (roster : Roster) (waiting : List (List waits.After)) (order : List CommandAt) (written : List Written) → IsKept gateways names roster waiting order written
    → AllByRecursion (IsShown roster) written
kept_shown gateways names roster waiting order written h = each_shown roster written h.within (each_line gateways [] (lines_at roster written) h.script)

text_kept : (roster : Roster) (written : List Written) → flat_map (kept_text roster) written ≡ script_text (lines_at roster written)
text_kept roster [] = refl
text_kept roster (w ∷ written) = ap (λ (t : List ℕ). kept_text roster w ++ t) (text_kept roster written)

pub text_shown : {T E : Type 0} (gateways : ℕ) (roster : Roster) (written shown : List Written) (v : Content) (r : Result T E) (old new : List ℕ)
    → record { gateways = gateways; lines = lines_at roster written } ≡ v → shown ≡ written → Printed r old new (flat_map (kept_text roster) shown) → Printed r old new (script_text v.lines)
text_shown gateways roster written shown v r old new is same printed =
    subst (Printed r old new) (ap (flat_map (kept_text roster)) same ∙ text_kept roster written ∙ ap (λ (u : Content). script_text u.lines) is) printed
