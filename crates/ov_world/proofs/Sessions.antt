-- Sessions by their names: as a script finds them, and as the roster does.
use Rattle.std.proofs.Common.{◌≡◌, ℕ, List, [], ◌∷◌, refl, ap}
use Rattle.std.specs.Prelude.{map}
use Rattle.ov_session.specs.declared.plan.SessionPlan.{SessionPlan}
use Rattle.ov_script.specs.declared.line.ScriptLine.{ScriptLine}
use Rattle.ov_script.specs.Sessions.{names_of, place_in, plan_of, roster_of, sessions_of}
use Rattle.ov_follow.specs.Lines.{session_named}

names_by : (lines : List ScriptLine) (sessions : List (List ℕ × ℕ)) → map (λ (plan : SessionPlan). plan.name) (map (plan_of lines) sessions) ≡ map (λ (session : List ℕ × ℕ). session.0) sessions
names_by lines [] = refl
names_by lines (session ∷ sessions) = ap (λ rest. session.0 ∷ rest) (names_by lines sessions)

-- the number of a session is the same by the lines and by their roster
pub named_is : (lines : List ScriptLine) (name : List ℕ) → session_named (roster_of lines) name ≡ place_in name (names_of lines)
named_is lines name = ap (place_in name) (names_by lines (sessions_of lines))
