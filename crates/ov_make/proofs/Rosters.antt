-- What the roster of an open script says of one session.
use Rattle.std.proofs.Common.{◌≡◌, ℕ, ◌%◌, ◌<◌, ◌≤◌, List, [], map, length, get_or, refl, ap, ◌∙◌, zero-add, arith}
use Rattle.std.specs.List.{range_with_len}
use Rattle.std.proofs.lemmas.List.{get_or-map}
use Rattle.std.proofs.lemmas.List.FromFn.{get_or-map-range_with_len, length-map-range_with_len}
use Rattle.ov_session.specs.declared.plan.SessionPlan.{SessionPlan}
use Rattle.ov_script.specs.Script.{Content}
use Rattle.ov_script.specs.Sessions.{sessions_of, commands_in, plan_of, roster_of}
use Rattle.ov_script.proofs.OneMore.{planned_count, counted_in_order}
use Rattle.ov_make.specs.Made.{session_name, sessions, session_lines}
use Rattle.ov_make.specs.Progress.{IsOpen}

-- a session and its gateway
abbrev session : ℕ → List ℕ × ℕ
session j = (session_name j, j % 3)

made_sessions : sessions_of session_lines ≡ map session (range_with_len 0 sessions)
unfolding session_lines
made_sessions = refl

module _ (script : Content) (more : ℕ) (all : IsOpen script more) where
  roster_is : (roster_of script.lines).sessions ≡ map (plan_of script.lines) (map session (range_with_len 0 sessions))
  roster_is = ap (map (plan_of script.lines)) (all.sessions ∙ made_sessions)

  -- there are as many as the made script has
  pub open_length : length (roster_of script.lines).sessions ≡ sessions
  open_length = ap length roster_is

  plan_at : (j : ℕ) (other : SessionPlan) → j < sessions → get_or (roster_of script.lines).sessions j other ≡ plan_of script.lines (session j)
  plan_at j other h =
      ap (λ (plans : List SessionPlan). get_or plans j other) roster_is
      ∙ get_or-map (plan_of script.lines) (map session (range_with_len 0 sessions)) j (session 0) other (omega (arith, length-map-range_with_len session 0 sessions))
      ∙ ap (plan_of script.lines) (get_or-map-range_with_len session 0 sessions j j (session 0) h (zero-add j))

  -- the plan of a session has its commands
  pub open_commands : (j : ℕ) (other : SessionPlan) → j < sessions → length (get_or (roster_of script.lines).sessions j other).planned ≡ commands_in (session_name j) script.lines
  open_commands j other h = ap (λ (plan : SessionPlan). length plan.planned) (plan_at j other h) ∙ planned_count [] (session_name j) [] script.lines

  -- which are no more than a script has
  pub open_few : (j : ℕ) → commands_in (session_name j) script.lines ≤ 4000
  open_few j = omega (arith, counted_in_order (session_name j) script.lines, all.room)
