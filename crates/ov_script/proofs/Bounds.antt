-- How much a script says at most: its roster is one that sessions can follow.
use Rattle.std.proofs.Common.{◌≡◌, ℕ, ◌<◌, ◌≤◌, Bool, true, false, cond, leb, List, [], ◌∷◌, ◌++◌, map, length, Option, Some, None, refl, sym, subst, ◌∙◌, arith, append_assoc, suc, inl, inr}
use Rattle.std.specs.List.{AllByRecursion}
use Rattle.std.proofs.lemmas.Bool.Decides.{leb_tells}
use Rattle.std.proofs.lemmas.List.{append-nil, length-map, length_push}
use Rattle.ov_base.specs.Key.{repeats}
use Rattle.ov_functor.specs.declared.error.TxnError.{TxnError}
use Rattle.ov_functor.specs.Transaction.{transaction_error}
use Rattle.ov_session.specs.Standing.{IsRoster, most_commands, most_sessions}
use Rattle.ov_script.specs.Sessions.{sessions_of, names_of, plan_of, roster_of, command_at, order_of}
use Rattle.ov_script.specs.Faults.{most_keys, is_declared, parts_fault, commands_fault, fault_of}
use Rattle.ov_script.specs.Script.{Content, Follow, IsScript}
use Rattle.ov_script.specs.declared.line.ScriptLine.{ScriptLine}
use Rattle.ov_script.specs.declared.line.ScriptLine.TheVariants.{Session, Do, Snap, After}
use Rattle.ov_script.proofs.OneMore.{names_more, planned_count, order_more, counted_in_order}
use Rattle.ov_script.proofs.Saying.{plain_names}

-- a choice that gave nothing where the one gives something
pub passed : {A : Type 0} (b : Bool) (x : A) (o : Option A) → ◌≡◌ {A = Option A} (cond b (Some x) o) None → (b ≡ false) × (o ≡ None)
passed true x o e = absurd cc
passed false x o e = (refl, e)

-- a choice that gave nothing where the other gives something chose what is nothing
pub chosen_none : {A : Type 0} (b : Bool) (o : Option A) (x : A) → ◌≡◌ {A = Option A} (cond b o (Some x)) None → o ≡ None
chosen_none true o x e = e
chosen_none false o x e = absurd cc

below : (a b : ℕ) → leb a b ≡ false → b < a
below a b e = elim (leb_tells a b) [ inl p ↦ let bad : true ≡ false = sym p.0 ∙ e in absurd cc | inr p ↦ p.1 ]

room_for_command : (lines : List ScriptLine) → commands_fault lines ≡ None → length (order_of lines) < most_commands
room_for_command lines e = below most_commands (length (order_of lines)) (passed (leb most_commands (length (order_of lines))) _ None e).0

parts_room : (lines : List ScriptLine) (o : Option TxnError) → parts_fault lines o ≡ None → commands_fault lines ≡ None
parts_room lines None e = e
parts_room lines (Some error) e = absurd cc

-- What a script says is within its bounds.
pub record IsBounded (lines : List ScriptLine) : Type 0 where
  pub sessions : length (names_of lines) ≤ most_sessions
  pub commands : length (order_of lines) ≤ most_commands

same_names : (lines : List ScriptLine) (line : ScriptLine) → sessions_of (line ∷ []) ≡ [] → IsBounded lines → length (names_of (lines ++ line ∷ [])) ≤ most_sessions
same_names lines line plain h = rw (plain_names lines line plain) h.sessions

bounded_more : (gateways : ℕ) (lines : List ScriptLine) (line : ScriptLine) → fault_of gateways lines line ≡ None → IsBounded lines → IsBounded (lines ++ line ∷ [])
bounded_more gateways lines (Session name gate) none h =
    let first = passed (is_declared name lines) _ _ none in
    let second = passed (leb gateways gate) _ _ first.1 in
    let third = passed (leb most_sessions (length (names_of lines))) _ _ second.1 in
    record {
      sessions = rw (names_more lines (Session name gate)) (omega (arith, length_push (names_of lines) name, below most_sessions (length (names_of lines)) third.0));
      commands = rw (order_more [] lines (Session name gate), append-nil (order_of lines)) h.commands;
    }
bounded_more gateways lines (Do session parts) none h =
    let room = room_for_command lines (parts_room lines (transaction_error parts) (chosen_none (is_declared session lines) _ _ none)) in
    record {
      sessions = same_names lines (Do session parts) refl h;
      commands = rw (order_more [] lines (Do session parts)) (omega (arith, length_push (order_of lines) (command_at lines session), room));
    }
bounded_more gateways lines (Snap session keys) none h =
    let first = chosen_none (is_declared session lines) _ _ none in
    let second = passed (leb (suc most_keys) (length keys)) _ _ first in
    let third = passed (repeats keys) _ _ second.1 in
    let room = room_for_command lines third.1 in
    record {
      sessions = same_names lines (Snap session keys) refl h;
      commands = rw (order_more [] lines (Snap session keys)) (omega (arith, length_push (order_of lines) (command_at lines session), room));
    }
bounded_more gateways lines (After session other seq) none h =
    record {
      sessions = same_names lines (After session other seq) refl h;
      commands = rw (order_more [] lines (After session other seq), append-nil (order_of lines)) h.commands;
    }

bounded_all : (gateways : ℕ) (before lines : List ScriptLine) → Follow gateways before lines → IsBounded before → IsBounded (before ++ lines)
bounded_all gateways before [] follow h = rw (append-nil before) h
bounded_all gateways before (line ∷ lines) follow h =
    subst IsBounded (append_assoc before (line ∷ []) lines) (bounded_all gateways (before ++ line ∷ []) lines follow.2 (bounded_more gateways before line follow.1 h))

-- a script has at most 64 sessions and 4,000 commands
pub script_bounded : (script : Content) → IsScript script → IsBounded script.lines
script_bounded script h = bounded_all script.gateways [] script.lines h (record { sessions = omega arith; commands = omega arith })

each_short : (lines : List ScriptLine) → IsBounded lines → (sessions : List (List ℕ × ℕ)) → AllByRecursion (λ plan. length plan.planned ≤ most_commands) (map (plan_of lines) sessions)
each_short lines h [] = tt
each_short lines h (session ∷ sessions) =
    (omega (arith, planned_count [] session.0 [] lines, counted_in_order session.0 lines, h.commands), each_short lines h sessions)

-- the roster of a script is one that sessions can follow
pub script_roster : (script : Content) → IsScript script → IsRoster (roster_of script.lines)
script_roster script h =
    let bounded = script_bounded script h in
    record {
      few = omega (arith, length-map (sessions_of script.lines) (plan_of script.lines), length-map (sessions_of script.lines) (λ (session : List ℕ × ℕ). session.0), bounded.sessions);
      short = each_short script.lines bounded (sessions_of script.lines);
    }
