-- What a script keeps, with one line more: the lines before it stay, and it stands last.
use Rattle.std.proofs.Common.{◌≡◌, ◌≢◌, ℕ, ◌+◌, ◌-◌, ◌<◌, ◌≤◌, List, [], ◌∷◌, ◌++◌, length, get_or, set, Some, None, refl, sym, ap, subst, ◌∙◌, arith, inl, inr}
use Rattle.std.specs.List.{AllByRecursion}
use Rattle.std.proofs.lemmas.Bool.Decides.{eqb_tells}
use Rattle.std.proofs.lemmas.List.{map-append, length-set, length_push, get_or-set_same, get_or-set_other, get_or_append_left, get_or_push}
use Rattle.ov_functor.specs.declared.command.Command.{Command}
use Rattle.ov_functor.specs.declared.command.Command.TheVariants as commands
use Rattle.ov_session.specs.declared.after.After as waits
use Rattle.ov_session.specs.declared.planned.Planned.{Planned}
use Rattle.ov_session.specs.declared.plan.SessionPlan.{SessionPlan}
use Rattle.ov_session.specs.declared.roster.Roster.{Roster}
use Rattle.ov_session.specs.Standing.{most_commands, most_sessions}
use Rattle.ov_script.specs.Line.{IsLine}
use Rattle.ov_script.specs.Sessions.{place_in}
use Rattle.ov_script.specs.Faults.{fault_of}
use Rattle.ov_script.specs.Script.{Follow}
use Rattle.ov_script.specs.Written.{plan_at, name_at, command_at, command_line, line_at, lines_at, with_session, plan_more, with_command, IsWithin, Says, IsKept}
use Rattle.ov_script.specs.declared.line.ScriptLine.{ScriptLine}
use Rattle.ov_script.specs.declared.line.ScriptLine.TheVariants.{Session, After}
use Rattle.ov_script.specs.declared.order.CommandAt.{CommandAt}
use Rattle.ov_script.specs.declared.written.Written.{Written}
use Rattle.ov_script.specs.declared.written.Written.TheVariants as kept
use Rattle.ov_script.proofs.OneMore.{follow_more}
use Rattle.ov_script.proofs.Saying.{plan_found, says_session, says_command, says_after}

-- ---- rosters that grow

-- The second roster has all that the first has, in the same places.
pub record Grows (old new : Roster) : Type 0 where
  pub count : length old.sessions ≤ length new.sessions
  pub named : (s : ℕ) → s < length old.sessions → name_at new s ≡ name_at old s
  pub gated : (s : ℕ) → s < length old.sessions → (plan_at new s).gate ≡ (plan_at old s).gate
  pub more : (s : ℕ) → s < length old.sessions → length (plan_at old s).planned ≤ length (plan_at new s).planned
  pub same : (s c : ℕ) → s < length old.sessions → 1 ≤ c → c ≤ length (plan_at old s).planned → command_at new s c ≡ command_at old s c

line_same : (old new : Roster) → Grows old new → (w : Written) → IsWithin old w → line_at new w ≡ line_at old w
line_same old new g (kept.Session s) h = rw (g.named s h, g.gated s h) refl
line_same old new g (kept.Command s c) h = rw (g.named s h.0, g.same s c h.0 h.1 h.2) refl
line_same old new g (kept.After s other seq) h = rw (g.named s h.0, g.named other h.1) refl

within_same : (old new : Roster) → Grows old new → (w : Written) → IsWithin old w → IsWithin new w
within_same old new g (kept.Session s) h = omega (arith, h, g.count)
within_same old new g (kept.Command s c) h = (omega (arith, h.0, g.count), h.1, omega (arith, h.2, g.more s h.0))
within_same old new g (kept.After s other seq) h = (omega (arith, h.0, g.count), omega (arith, h.1, g.count))

pub lines_same : (old new : Roster) → Grows old new → (written : List Written) → AllByRecursion (IsWithin old) written → lines_at new written ≡ lines_at old written
lines_same old new g [] all = refl
lines_same old new g (w ∷ written) all = rw (line_same old new g w all.0) (ap (λ (t : List ScriptLine). line_at old w ∷ t) (lines_same old new g written all.1))

within_more : (old new : Roster) → Grows old new → (written : List Written) (w : Written) → AllByRecursion (IsWithin old) written → IsWithin new w → AllByRecursion (IsWithin new) (written ++ w ∷ [])
within_more old new g [] w all here = (here, tt)
within_more old new g (first ∷ written) w all here = (within_same old new g first all.0, within_more old new g written w all.1 here)

-- the lines of a roster that grew, with one line more
lines_more : (old new : Roster) → Grows old new → (written : List Written) (w : Written) → AllByRecursion (IsWithin old) written → lines_at new (written ++ w ∷ []) ≡ lines_at old written ++ line_at new w ∷ []
lines_more old new g written w all = map-append (line_at new) written (w ∷ []) ∙ ap (λ (t : List ScriptLine). t ++ line_at new w ∷ []) (lines_same old new g written all)

grows_not : (roster : Roster) → Grows roster roster
grows_not roster = record {
  count = omega arith;
  named = λ s h. refl;
  gated = λ s h. refl;
  more = λ s h. omega arith;
  same = λ s c h low high. refl;
}

grows_session : (roster : Roster) (plan : SessionPlan) → Grows roster (with_session roster plan)
grows_session roster plan =
    let at : (s : ℕ) → s < length roster.sessions → plan_at (with_session roster plan) s ≡ plan_at roster s
    = λ s h. get_or_append_left roster.sessions (plan ∷ []) (record { name = []; gate = 0; planned = [] }) s h in
    record {
      count = omega (arith, length_push roster.sessions plan);
      named = λ s h. ap (λ (p : SessionPlan). p.name) (at s h);
      gated = λ s h. ap (λ (p : SessionPlan). p.gate) (at s h);
      more = λ s h. rw (at s h) (omega arith);
      same = λ s c h low high. ap (λ (p : SessionPlan). (get_or p.planned (c - 1) (record { command = commands.Snap []; after = [] })).command) (at s h);
    }

module _ (roster : Roster) (s : ℕ) (planned : Planned) (there : s < length roster.sessions) where
  plan_here : plan_at (with_command roster s planned) s ≡ plan_more (plan_at roster s) planned
  plan_here = get_or-set_same roster.sessions s (plan_more (plan_at roster s) planned) (record { name = []; gate = 0; planned = [] }) there

  plan_other : (t : ℕ) → t ≢ s → plan_at (with_command roster s planned) t ≡ plan_at roster t
  plan_other t other = get_or-set_other roster.sessions s t (plan_more (plan_at roster s) planned) (record { name = []; gate = 0; planned = [] }) other

  -- what holds of the plan with one command more, and of each other plan
  each_plan : (P : SessionPlan → SessionPlan → Type 0) → P (plan_more (plan_at roster s) planned) (plan_at roster s) → ((p : SessionPlan) → P p p)
      → (t : ℕ) → P (plan_at (with_command roster s planned) t) (plan_at roster t)
  each_plan P here else t =
      elim (eqb_tells t s) [
        | inl e ↦ subst (λ (k : ℕ). P (plan_at (with_command roster s planned) k) (plan_at roster k)) (sym e.1) (subst (λ (p : SessionPlan). P p (plan_at roster s)) (sym plan_here) here)
        | inr e ↦ subst (λ (p : SessionPlan). P p (plan_at roster t)) (sym (plan_other t e.1)) (else (plan_at roster t))
      ]

  grows_command : Grows roster (with_command roster s planned)
  grows_command = record {
    count = omega (arith, length-set roster.sessions s (plan_more (plan_at roster s) planned));
    named = λ t h. each_plan (λ (p q : SessionPlan). p.name ≡ q.name) refl (λ p. refl) t;
    gated = λ t h. each_plan (λ (p q : SessionPlan). p.gate ≡ q.gate) refl (λ p. refl) t;
    more = λ t h. each_plan (λ (p q : SessionPlan). length q.planned ≤ length p.planned) (omega (arith, length_push (plan_at roster s).planned planned)) (λ p. omega arith) t;
    same = λ t c h low high. each_plan
        (λ (p q : SessionPlan). c ≤ length q.planned → ((get_or p.planned (c - 1) (record { command = commands.Snap []; after = [] })).command ≡ (get_or q.planned (c - 1) (record { command = commands.Snap []; after = [] })).command))
        (λ few. ap (λ (x : Planned). x.command) (get_or_append_left (plan_at roster s).planned (planned ∷ []) (record { command = commands.Snap []; after = [] }) (c - 1) (omega (arith, few, low))))
        (λ p few. refl) t high;
  }

-- ---- one line more

module _ (gateways : ℕ) (names : List (List ℕ)) (roster : Roster) (waiting : List (List waits.After)) (order : List CommandAt) (written : List Written) (h : IsKept gateways names roster waiting order written) where
  -- one line more, where the rest is as it says
  kept_more : (names' : List (List ℕ)) (roster' : Roster) (waiting' : List (List waits.After)) (order' : List CommandAt) (w : Written) (line : ScriptLine)
      → Grows roster roster' → IsWithin roster' w → line_at roster' w ≡ line → Says (lines_at roster written ++ line ∷ []) names' roster' waiting' order'
      → IsLine line → fault_of gateways (lines_at roster written) line ≡ None
      → IsKept gateways names' roster' waiting' order' (written ++ w ∷ []) × (lines_at roster' (written ++ w ∷ []) ≡ lines_at roster written ++ line ∷ [])
  kept_more names' roster' waiting' order' w line grows within is says form none =
      let all : lines_at roster' (written ++ w ∷ []) ≡ lines_at roster written ++ line ∷ []
      = lines_more roster roster' grows written w h.within ∙ ap (λ (t : ScriptLine). lines_at roster written ++ t ∷ []) is in
      let follow = follow_more gateways [] (lines_at roster written) line h.script form none in (
        record {
          says = subst (λ (t : List ScriptLine). Says t names' roster' waiting' order') (sym all) says;
          within = within_more roster roster' grows written w h.within within;
          script = subst (λ (t : List ScriptLine). Follow gateways [] t) (sym all) follow;
        },
        all,
      )

  -- a session that is declared
  pub kept_session : (name : List ℕ) (gate : ℕ) → IsLine (Session name gate) → place_in name names ≡ None → length names < most_sessions
      → fault_of gateways (lines_at roster written) (Session name gate) ≡ None
      → IsKept gateways (names ++ name ∷ []) (with_session roster (record { name = name; gate = gate; planned = [] })) (waiting ++ [] ∷ []) order (written ++ kept.Session (length roster.sessions) ∷ [])
      × (lines_at (with_session roster (record { name = name; gate = gate; planned = [] })) (written ++ kept.Session (length roster.sessions) ∷ []) ≡ lines_at roster written ++ Session name gate ∷ [])
  kept_session name gate form free few none =
      let plan : SessionPlan = record { name = name; gate = gate; planned = [] } in
      let last : plan_at (with_session roster plan) (length roster.sessions) ≡ plan = get_or_push roster.sessions plan (record { name = []; gate = 0; planned = [] }) (length roster.sessions) refl in
      kept_more (names ++ name ∷ []) (with_session roster plan) (waiting ++ [] ∷ []) order (kept.Session (length roster.sessions)) (Session name gate)
      (grows_session roster plan) (omega (arith, length_push roster.sessions plan))
      (ap (λ (p : SessionPlan). Session p.name p.gate) last)
      (says_session (lines_at roster written) names roster waiting order name gate h.says free few) form none

  -- a command of a session
  pub kept_command : (session : List ℕ) (s : ℕ) (command : Command) → IsLine (command_line session command) → place_in session names ≡ Some s → length order < most_commands
      → fault_of gateways (lines_at roster written) (command_line session command) ≡ None
      → IsKept gateways names (with_command roster s (record { command = command; after = get_or waiting s [] })) (set waiting s [])
      (order ++ record { session = s; seq = length (plan_at roster s).planned + 1 } ∷ []) (written ++ kept.Command s (length (plan_at roster s).planned + 1) ∷ [])
      × (lines_at (with_command roster s (record { command = command; after = get_or waiting s [] })) (written ++ kept.Command s (length (plan_at roster s).planned + 1) ∷ []) ≡ lines_at roster written ++ command_line session command ∷ [])
  kept_command session s command form found short none =
      let planned : Planned = record { command = command; after = get_or waiting s [] } in
      let plan = plan_found (lines_at roster written) names roster waiting order session s h.says found in
      let c = length (plan_at roster s).planned + 1 in
      let here = plan_here roster s planned plan.1 in
      let name : name_at (with_command roster s planned) s ≡ session = ap (λ (p : SessionPlan). p.name) here ∙ ap (λ (p : SessionPlan). p.name) plan.2 in
      let last : command_at (with_command roster s planned) s c ≡ command
      = ap (λ (p : SessionPlan). (get_or p.planned (c - 1) (record { command = commands.Snap []; after = [] })).command) here
      ∙ ap (λ (x : Planned). x.command) (get_or_push (plan_at roster s).planned planned (record { command = commands.Snap []; after = [] }) (c - 1) (omega arith)) in
      kept_more names (with_command roster s planned) (set waiting s []) (order ++ record { session = s; seq = c } ∷ []) (kept.Command s c) (command_line session command)
      (grows_command roster s planned plan.1)
      (omega (arith, plan.1, length-set roster.sessions s (plan_more (plan_at roster s) planned)), omega arith, rw here (omega (arith, length_push (plan_at roster s).planned planned)))
      (ap (λ (n : List ℕ). command_line n (command_at (with_command roster s planned) s c)) name ∙ ap (command_line session) last)
      (says_command (lines_at roster written) names roster waiting order session s command h.says found short) form none

  -- a command of another session that a session's next one waits for
  pub kept_after : (session other : List ℕ) (s o seq : ℕ) → IsLine (After session other seq) → place_in session names ≡ Some s → place_in other names ≡ Some o
      → fault_of gateways (lines_at roster written) (After session other seq) ≡ None
      → IsKept gateways names roster (set waiting s (get_or waiting s [] ++ record { session = o; seq = seq } ∷ [])) order (written ++ kept.After s o seq ∷ [])
      × (lines_at roster (written ++ kept.After s o seq ∷ []) ≡ lines_at roster written ++ After session other seq ∷ [])
  kept_after session other s o seq form found there none =
      let first = plan_found (lines_at roster written) names roster waiting order session s h.says found in
      let second = plan_found (lines_at roster written) names roster waiting order other o h.says there in
      let name : name_at roster s ≡ session = ap (λ (p : SessionPlan). p.name) first.2 in
      let name' : name_at roster o ≡ other = ap (λ (p : SessionPlan). p.name) second.2 in
      kept_more names roster (set waiting s (get_or waiting s [] ++ record { session = o; seq = seq } ∷ [])) order (kept.After s o seq) (After session other seq)
      (grows_not roster) (first.1, second.1)
      (ap (λ (n : List ℕ). After n (name_at roster o) seq) name ∙ ap (λ (n : List ℕ). After session n seq) name')
      (says_after (lines_at roster written) names roster waiting order session other s o seq h.says found there) form none
