-- What a script keeps beside its lines, with one line more.
use Rattle.std.proofs.Common.{◌≡◌, ℕ, ◌+◌, ◌<◌, false, cond, List, [], ◌∷◌, ◌++◌, map, length, get_or, set, Option, Some, None, refl, sym, ap, subst, ◌∙◌, arith, inl, inr}
use Rattle.std.specs.Str.{bytes_eq}
use Rattle.std.proofs.lemmas.Bool.{cases_Bool}
use Rattle.std.proofs.lemmas.Slice.Eq.{bytes_eq-Decides}
use Rattle.std.proofs.lemmas.List.{append-nil, map-append, length-map, get_or-map, length_push, map-id}
use Rattle.ov_base.proofs.Lists.{map_same}
use Rattle.ov_functor.specs.declared.command.Command.{Command}
use Rattle.ov_functor.specs.declared.command.Command.TheVariants as commands
use Rattle.ov_session.specs.declared.after.After as waits
use Rattle.ov_session.specs.declared.planned.Planned.{Planned}
use Rattle.ov_session.specs.declared.plan.SessionPlan.{SessionPlan}
use Rattle.ov_session.specs.declared.roster.Roster.{Roster}
use Rattle.ov_session.specs.Standing.{most_commands, most_sessions}
use Rattle.ov_script.specs.Sessions.{sessions_of, names_of, place_in, or_first, number_in, command_by, commands_in, plan_by, waiting_by, planned_of, waiting_of, plan_of, roster_of, command_at, order_by, order_of}
use Rattle.ov_script.specs.Written.{plan_at, command_line, with_session, plan_more, with_command, Apart, Says}
use Rattle.ov_script.specs.declared.line.ScriptLine.{ScriptLine}
use Rattle.ov_script.specs.declared.line.ScriptLine.TheVariants.{Session, After}
use Rattle.ov_script.specs.declared.order.CommandAt.{CommandAt}
use Rattle.ov_script.proofs.OneMore.{sessions_more, names_more, waiting_more, planned_more, planned_count, order_more}
use Rattle.ov_script.proofs.Found.{bytes_same, placed, unplaced_front, apart_more, map_at}

-- ---- what a line of each kind adds

pub planned_by : (lines : List ScriptLine) (line : ScriptLine) (name : List ℕ) → planned_of (lines ++ line ∷ []) name ≡ planned_of lines name ++ plan_by (waiting_of lines name) (command_by name line)
planned_by lines line name = planned_more [] name [] lines line

pub waited_by : (lines : List ScriptLine) (line : ScriptLine) (name : List ℕ) → waiting_of (lines ++ line ∷ []) name ≡ waiting_by (names_of lines) name (waiting_of lines name) line
waited_by lines line name = waiting_more [] name [] lines line

pub ordered_by : (lines : List ScriptLine) (line : ScriptLine) → order_of (lines ++ line ∷ []) ≡ order_of lines ++ order_by lines line
ordered_by lines line = order_more [] lines line

-- the line declares no session
abbrev pub IsPlain : ScriptLine → Type 0
IsPlain line = sessions_of (line ∷ []) ≡ []

pub plain_sessions : (lines : List ScriptLine) (line : ScriptLine) → IsPlain line → sessions_of (lines ++ line ∷ []) ≡ sessions_of lines
plain_sessions lines line plain = sessions_more lines line ∙ ap (λ (t : List (List ℕ × ℕ)). sessions_of lines ++ t) plain ∙ append-nil (sessions_of lines)

pub plain_names : (lines : List ScriptLine) (line : ScriptLine) → IsPlain line → names_of (lines ++ line ∷ []) ≡ names_of lines
plain_names lines line plain = ap (map (λ (session : List ℕ × ℕ). session.0)) (plain_sessions lines line plain)

pub command_plain : (session : List ℕ) (command : Command) → IsPlain (command_line session command)
command_plain session (commands.Transact parts) = refl
command_plain session (commands.Snap keys) = refl

pub command_line_by : (name session : List ℕ) (command : Command) → command_by name (command_line session command) ≡ cond (bytes_eq session name) (Some command) None
command_line_by name session (commands.Transact parts) = refl
command_line_by name session (commands.Snap keys) = refl

pub command_waiting : (names : List (List ℕ)) (name : List ℕ) (waiting : List waits.After) (session : List ℕ) (command : Command)
    → waiting_by names name waiting (command_line session command) ≡ cond (bytes_eq session name) [] waiting
command_waiting names name waiting session (commands.Transact parts) = refl
command_waiting names name waiting session (commands.Snap keys) = refl

pub command_order : (lines : List ScriptLine) (session : List ℕ) (command : Command) → order_by lines (command_line session command) ≡ command_at lines session ∷ []
command_order lines session (commands.Transact parts) = refl
command_order lines session (commands.Snap keys) = refl

-- ---- the sessions and what they wait for

-- the plan of a session that is found
pub plan_found : (lines : List ScriptLine) (names : List (List ℕ)) (roster : Roster) (waiting : List (List waits.After)) (order : List CommandAt) (session : List ℕ) (s : ℕ)
    → Says lines names roster waiting order → place_in session names ≡ Some s
    → (gate : ℕ) × (s < length roster.sessions) × (plan_at roster s ≡ record { name = session; gate = gate; planned = planned_of lines session })
plan_found lines names roster waiting order session s h e =
    let found : place_in session (map (λ (x : List ℕ × ℕ). x.0) (sessions_of lines)) ≡ Some s = rw h.named at e in
    let at = placed (λ (x : List ℕ × ℕ). x.0) (sessions_of lines) session s ([], 0) found in
    let pair : List ℕ × ℕ = get_or (sessions_of lines) s ([], 0) in (
      pair.1,
      rw (h.rostered, length-map (sessions_of lines) (plan_of lines)) at.0,
      rw (h.rostered, get_or-map (plan_of lines) (sessions_of lines) s ([], 0) (record { name = []; gate = 0; planned = [] }) at.0)
          (ap (λ (n : List ℕ). record { name = n; gate = pair.1; planned = planned_of lines n }) at.1),
    )

-- and what its next command waits for
pub waiting_found : (lines : List ScriptLine) (names : List (List ℕ)) (roster : Roster) (waiting : List (List waits.After)) (order : List CommandAt) (session : List ℕ) (s : ℕ)
    → Says lines names roster waiting order → place_in session names ≡ Some s → (s < length waiting) × (get_or waiting s [] ≡ waiting_of lines session)
waiting_found lines names roster waiting order session s h e =
    let at = placed (λ (x : List ℕ). x) names session s [] (ap (place_in session) (map-id names) ∙ e) in
    (rw (h.waited, length-map names (waiting_of lines)) at.0, rw (h.waited, get_or-map (waiting_of lines) names s [] [] at.0) (ap (waiting_of lines) at.1))

-- ---- one line more

session_roster : (lines : List ScriptLine) (roster : Roster) (name : List ℕ) (gate : ℕ) → roster ≡ roster_of lines
    → ((n : List ℕ) → planned_of (lines ++ Session name gate ∷ []) n ≡ planned_of lines n) → planned_of lines name ≡ []
    → with_session roster (record { name = name; gate = gate; planned = [] }) ≡ roster_of (lines ++ Session name gate ∷ [])
session_roster lines roster name gate is planned free =
    let after = lines ++ Session name gate ∷ [] in
    let sessions : map (plan_of after) (sessions_of after) ≡ map (plan_of lines) (sessions_of lines) ++ record { name = name; gate = gate; planned = [] } ∷ []
    = ap (map (plan_of after)) (sessions_more lines (Session name gate))
    ∙ map-append (plan_of after) (sessions_of lines) ((name, gate) ∷ [])
    ∙ ap (λ (t : List SessionPlan). t ++ plan_of after (name, gate) ∷ [])
    (map_same (plan_of lines) (plan_of after) (sessions_of lines) (λ x. ap (λ (p : List Planned). record { name = x.0; gate = x.1; planned = p }) (planned x.0)))
    ∙ ap (λ (p : List Planned). map (plan_of lines) (sessions_of lines) ++ record { name = name; gate = gate; planned = p } ∷ []) (planned name ∙ free) in
    rw is (ap (λ (t : List SessionPlan). record { sessions = t }) (sym sessions))

-- a session that is declared
pub says_session : (lines : List ScriptLine) (names : List (List ℕ)) (roster : Roster) (waiting : List (List waits.After)) (order : List CommandAt) (name : List ℕ) (gate : ℕ)
    → Says lines names roster waiting order → place_in name names ≡ None → length names < most_sessions
    → Says (lines ++ Session name gate ∷ []) (names ++ name ∷ []) (with_session roster (record { name = name; gate = gate; planned = [] })) (waiting ++ [] ∷ []) order
says_session lines names roster waiting order name gate h none few =
    let line = Session name gate in
    let more : names_of (lines ++ line ∷ []) ≡ names ++ name ∷ [] = names_more lines line ∙ ap (λ (t : List (List ℕ)). t ++ name ∷ []) (sym h.named) in
    let free = h.quiet name (ap (place_in name) (sym h.named) ∙ none) in
    let planned : (n : List ℕ) → planned_of (lines ++ line ∷ []) n ≡ planned_of lines n = λ n. planned_by lines line n ∙ append-nil (planned_of lines n) in
    let waited : (n : List ℕ) → waiting_of (lines ++ line ∷ []) n ≡ waiting_of lines n = λ n. waited_by lines line n in
    record {
      named = sym more;
      apart = apart_more names name h.apart none;
      few = omega (arith, length_push names name);
      rostered = session_roster lines roster name gate h.rostered planned free.0;
      waited = rw h.waited (sym (
          map-append (waiting_of (lines ++ line ∷ [])) names (name ∷ [])
          ∙ ap (λ (t : List (List waits.After)). t ++ waiting_of (lines ++ line ∷ []) name ∷ []) (map_same (waiting_of lines) (waiting_of (lines ++ line ∷ [])) names waited)
          ∙ ap (λ (t : List waits.After). map (waiting_of lines) names ++ t ∷ []) (waited name ∙ free.1)));
      ordered = h.ordered ∙ sym (ordered_by lines line ∙ append-nil (order_of lines));
      short = h.short;
      quiet = λ n out.
          let still = unplaced_front n names name (ap (place_in n) (sym more) ∙ out) in
          let before = h.quiet n (ap (place_in n) (sym h.named) ∙ still.0) in
          (planned n ∙ before.0, waited n ∙ before.1);
    }

-- a session that is found has not the name of one that is not declared
apart_names : (names : List (List ℕ)) (session other : List ℕ) (s : ℕ) → place_in session names ≡ Some s → place_in other names ≡ None → bytes_eq session other ≡ false
apart_names names session other s found none =
    elim (cases_Bool (bytes_eq session other)) [
      | inl h ↦ let is : session ≡ other = (bytes_eq-Decides session other).0 h in
          let bad : ◌≡◌ {A = Option ℕ} (Some s) None = sym found ∙ ap (λ (n : List ℕ). place_in n names) is ∙ none in absurd cc
      | inr h ↦ h
    ]

module _ (lines : List ScriptLine) (session : List ℕ) (command : Command) where
  abbrev behind_command : List ScriptLine
  behind_command = lines ++ command_line session command ∷ []

  command_planned_else : (n : List ℕ) → bytes_eq session n ≡ false → planned_of behind_command n ≡ planned_of lines n
  command_planned_else n other =
      let none : command_by n (command_line session command) ≡ None = command_line_by n session command ∙ rw other refl in
      planned_by lines (command_line session command) n
      ∙ ap (λ (c : Option Command). planned_of lines n ++ plan_by (waiting_of lines n) c) none
      ∙ append-nil (planned_of lines n)

  command_planned : planned_of behind_command session ≡ planned_of lines session ++ record { command = command; after = waiting_of lines session } ∷ []
  command_planned =
      let one : command_by session (command_line session command) ≡ Some command = command_line_by session session command ∙ rw (bytes_same session) refl in
      planned_by lines (command_line session command) session
      ∙ ap (λ (c : Option Command). planned_of lines session ++ plan_by (waiting_of lines session) c) one

  command_waiting_else : (n : List ℕ) → bytes_eq session n ≡ false → waiting_of behind_command n ≡ waiting_of lines n
  command_waiting_else n other =
      waited_by lines (command_line session command) n ∙ command_waiting (names_of lines) n (waiting_of lines n) session command ∙ rw other refl

  command_waiting_none : waiting_of behind_command session ≡ []
  command_waiting_none =
      waited_by lines (command_line session command) session
      ∙ command_waiting (names_of lines) session (waiting_of lines session) session command
      ∙ rw (bytes_same session) refl

  command_plan : (pair : List ℕ × ℕ) (after : List waits.After) → pair.0 ≡ session → after ≡ waiting_of lines session
      → plan_of behind_command pair ≡ plan_more (plan_of lines pair) (record { command = command; after = after })
  command_plan pair after is waited =
      ap (λ (p : List Planned). record { name = pair.0; gate = pair.1; planned = p })
      (subst (λ (n : List ℕ). planned_of behind_command n ≡ planned_of lines n ++ record { command = command; after = after } ∷ []) (sym is)
      (command_planned ∙ ap (λ (a : List waits.After). planned_of lines session ++ record { command = command; after = a } ∷ []) (sym waited)))

  command_roster : (roster : Roster) (s : ℕ) (after : List waits.After) → roster ≡ roster_of lines → Apart (names_of lines) → place_in session (names_of lines) ≡ Some s → after ≡ waiting_of lines session
      → with_command roster s (record { command = command; after = after }) ≡ roster_of behind_command
  command_roster roster s after is apart found waited =
      let pair : List ℕ × ℕ = get_or (sessions_of lines) s ([], 0) in
      let at = placed (λ (x : List ℕ × ℕ). x.0) (sessions_of lines) session s ([], 0) found in
      let planned : Planned = record { command = command; after = after } in
      let plan : plan_at (roster_of lines) s ≡ plan_of lines pair = get_or-map (plan_of lines) (sessions_of lines) s ([], 0) (record { name = []; gate = 0; planned = [] }) at.0 in
      let sessions : map (plan_of behind_command) (sessions_of behind_command) ≡ set (map (plan_of lines) (sessions_of lines)) s (plan_more (plan_at (roster_of lines) s) planned)
      = ap (map (plan_of behind_command)) (plain_sessions lines (command_line session command) (command_plain session command))
      ∙ map_at (λ (x : List ℕ × ℕ). x.0) (plan_of lines) (plan_of behind_command) (sessions_of lines) session s ([], 0) apart found
      (λ x other. ap (λ (p : List Planned). record { name = x.0; gate = x.1; planned = p }) (command_planned_else x.0 other))
      ∙ ap (λ (p : SessionPlan). set (map (plan_of lines) (sessions_of lines)) s p) (command_plan pair after at.1 waited ∙ ap (λ (p : SessionPlan). plan_more p planned) (sym plan)) in
      rw is (ap (λ (t : List SessionPlan). record { sessions = t }) (sym sessions))

names_themselves : (names : List (List ℕ)) (session : List ℕ) (s : ℕ) → place_in session names ≡ Some s → place_in session (map (λ (x : List ℕ). x) names) ≡ Some s
names_themselves names session s e = ap (place_in session) (map-id names) ∙ e

-- what waits, changed at one session
waiting_at : (before after : List ScriptLine) (names : List (List ℕ)) (session : List ℕ) (s : ℕ) → Apart names → place_in session names ≡ Some s
    → ((n : List ℕ) → bytes_eq session n ≡ false → waiting_of after n ≡ waiting_of before n) → set (map (waiting_of before) names) s (waiting_of after session) ≡ map (waiting_of after) names
waiting_at before after names session s apart found same =
    let found2 = names_themselves names session s found in
    let at = placed (λ (x : List ℕ). x) names session s [] found2 in
    sym (map_at (λ (x : List ℕ). x) (waiting_of before) (waiting_of after) names session s [] (subst Apart (sym (map-id names)) apart) found2 same
    ∙ ap (λ (n : List ℕ). set (map (waiting_of before) names) s (waiting_of after n)) at.1)

-- a command of a session
pub says_command : (lines : List ScriptLine) (names : List (List ℕ)) (roster : Roster) (waiting : List (List waits.After)) (order : List CommandAt) (session : List ℕ) (s : ℕ) (command : Command)
    → Says lines names roster waiting order → place_in session names ≡ Some s → length order < most_commands
    → Says (lines ++ command_line session command ∷ []) names (with_command roster s (record { command = command; after = get_or waiting s [] })) (set waiting s [])
    (order ++ record { session = s; seq = length (plan_at roster s).planned + 1 } ∷ [])
says_command lines names roster waiting order session s command h e short =
    let line = command_line session command in
    let same : names_of (lines ++ line ∷ []) ≡ names = plain_names lines line (command_plain session command) ∙ sym h.named in
    let found : place_in session (names_of lines) ≡ Some s = ap (place_in session) (sym h.named) ∙ e in
    let plan = plan_found lines names roster waiting order session s h e in
    let after = waiting_found lines names roster waiting order session s h e in
    let count : length (plan_at roster s).planned ≡ commands_in session lines = ap (λ (p : SessionPlan). length p.planned) plan.2 ∙ planned_count [] session [] lines in
    record {
      named = sym same;
      apart = h.apart;
      few = h.few;
      rostered = command_roster lines session command roster s (get_or waiting s []) h.rostered (subst Apart h.named h.apart) found after.1;
      waited = ap (λ (w : List (List waits.After)). set w s []) h.waited
          ∙ ap (λ (w : List waits.After). set (map (waiting_of lines) names) s w) (sym (command_waiting_none lines session command))
          ∙ waiting_at lines (lines ++ line ∷ []) names session s h.apart e (command_waiting_else lines session command);
      ordered = sym (ordered_by lines line ∙ ap (λ (t : List CommandAt). order_of lines ++ t) (command_order lines session command)
          ∙ ap (λ (t : List CommandAt). t ++ command_at lines session ∷ []) (sym h.ordered)
          ∙ ap (λ (n : ℕ). order ++ record { session = n; seq = commands_in session lines + 1 } ∷ []) (ap or_first found)
          ∙ ap (λ (n : ℕ). order ++ record { session = s; seq = n + 1 } ∷ []) (sym count));
      short = omega (arith, length_push order (record { session = s; seq = length (plan_at roster s).planned + 1 }));
      quiet = λ n out.
          let none : place_in n (names_of lines) ≡ None = ap (place_in n) (sym (plain_names lines line (command_plain session command))) ∙ out in
          let before = h.quiet n none in
          let other = apart_names (names_of lines) session n s found none in
          (command_planned_else lines session command n other ∙ before.0, command_waiting_else lines session command n other ∙ before.1);
    }

-- a command of another session that a session's next one waits for
pub says_after : (lines : List ScriptLine) (names : List (List ℕ)) (roster : Roster) (waiting : List (List waits.After)) (order : List CommandAt) (session other : List ℕ) (s o seq : ℕ)
    → Says lines names roster waiting order → place_in session names ≡ Some s → place_in other names ≡ Some o
    → Says (lines ++ After session other seq ∷ []) names roster (set waiting s (get_or waiting s [] ++ record { session = o; seq = seq } ∷ [])) order
says_after lines names roster waiting order session other s o seq h e f =
    let line = After session other seq in
    let same : names_of (lines ++ line ∷ []) ≡ names = plain_names lines line refl ∙ sym h.named in
    let found : place_in session (names_of lines) ≡ Some s = ap (place_in session) (sym h.named) ∙ e in
    let number : number_in (names_of lines) other ≡ o = ap or_first (ap (place_in other) (sym h.named) ∙ f) in
    let after = waiting_found lines names roster waiting order session s h e in
    let planned : (n : List ℕ) → planned_of (lines ++ line ∷ []) n ≡ planned_of lines n = λ n. planned_by lines line n ∙ append-nil (planned_of lines n) in
    let waited : (n : List ℕ) → bytes_eq session n ≡ false → waiting_of (lines ++ line ∷ []) n ≡ waiting_of lines n = λ n apart. waited_by lines line n ∙ rw apart refl in
    let gained : waiting_of (lines ++ line ∷ []) session ≡ get_or waiting s [] ++ record { session = o; seq = seq } ∷ []
    = waited_by lines line session ∙ rw (bytes_same session) (ap (λ (k : ℕ). waiting_of lines session ++ record { session = k; seq = seq } ∷ []) number)
    ∙ ap (λ (w : List waits.After). w ++ record { session = o; seq = seq } ∷ []) (sym after.1) in
    record {
      named = sym same;
      apart = h.apart;
      few = h.few;
      rostered = h.rostered ∙ ap (λ (t : List SessionPlan). record { sessions = t })
          (sym (ap (map (plan_of (lines ++ line ∷ []))) (plain_sessions lines line refl)
          ∙ map_same (plan_of lines) (plan_of (lines ++ line ∷ [])) (sessions_of lines) (λ x. ap (λ (p : List Planned). record { name = x.0; gate = x.1; planned = p }) (planned x.0))));
      waited = ap (λ (w : List (List waits.After)). set w s (get_or waiting s [] ++ record { session = o; seq = seq } ∷ [])) h.waited
          ∙ ap (λ (w : List waits.After). set (map (waiting_of lines) names) s w) (sym gained)
          ∙ waiting_at lines (lines ++ line ∷ []) names session s h.apart e waited;
      ordered = h.ordered ∙ sym (ordered_by lines line ∙ append-nil (order_of lines));
      short = h.short;
      quiet = λ n out.
          let none : place_in n (names_of lines) ≡ None = ap (place_in n) (sym (plain_names lines line refl)) ∙ out in
          let before = h.quiet n none in
          let apart = apart_names (names_of lines) session n s found none in
          (planned n ∙ before.0, waited n apart ∙ before.1);
    }
