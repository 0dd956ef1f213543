-- The commands of a script are in form, and their numbers and those of their sessions are in their ranges.
use Rattle.std.proofs.Common.{◌≡◌, ℕ, ◌<◌, ◌≤◌, Bool, true, false, leb, Option, Some, None, List, [], ◌∷◌, ◌++◌, length, refl, sym, subst, ◌∙◌, suc, cond, arith}
use Rattle.std.specs.Prelude.{slice_get}
use Rattle.std.specs.List.{AllByRecursion}
use Rattle.std.specs.Option.{option_map}
use Rattle.std.specs.Str.{bytes_eq}
use Rattle.std.proofs.lemmas.Bool.{leb-false}
use Rattle.std.proofs.lemmas.Option.{get_or_from_slice_get, slice_get-map, same_Some, slice_get_within}
use Rattle.ov_base.specs.Key.{repeats}
use Rattle.ov_base.proofs.Lists.{all_at}
use Rattle.ov_base.proofs.Readers.{chosen}
use Rattle.ov_functor.specs.Transaction.{IsTransaction, transaction_error}
use Rattle.ov_functor.specs.Words.{IsPart, IsParts}
use Rattle.ov_functor.specs.declared.command.Command.{Command}
use Rattle.ov_functor.specs.declared.command.Command.TheVariants as commands
use Rattle.ov_functor.specs.declared.error.TxnError.{TxnError}
use Rattle.ov_functor.specs.declared.part.Part.{Part}
use Rattle.ov_functor.proofs.PartWordsAgain.{parts_positive}
use Rattle.ov_session.specs.declared.after.After as waits
use Rattle.ov_session.specs.declared.planned.Planned.{Planned}
use Rattle.ov_session.specs.declared.plan.SessionPlan.{SessionPlan}
use Rattle.ov_session.specs.declared.roster.Roster.{Roster}
use Rattle.ov_script.specs.Faults.{most_keys, is_declared, parts_fault, fault_of}
use Rattle.ov_script.specs.Line.{IsLine}
use Rattle.ov_script.specs.Line as lines
use Rattle.ov_script.specs.Script.{Content, Follow, IsScript}
use Rattle.ov_script.specs.Sessions.{sessions_of, command_by, plan_by, waiting_by, names_by, planned_from, plan_of, roster_of}
use Rattle.ov_script.specs.declared.line.ScriptLine.{ScriptLine}
use Rattle.ov_script.specs.declared.line.ScriptLine.TheVariants.{Session, Do, Snap, After}
use Rattle.ov_script.proofs.Bounds.{chosen_none, passed, script_roster}
use Rattle.ov_journal.specs.Line.{IsKeys, most_sessions, most_commands}

-- a command in form: parts that are a transaction, or the keys of a snapshot
abbrev pub InForm : Command → Type 0
InForm (commands.Transact parts) = IsParts parts × IsTransaction parts
InForm (commands.Snap keys) = IsKeys keys

-- The roster has few sessions, each of few commands, and each command is in form.
pub record IsScripted (roster : Roster) : Type 0 where
  pub few : length roster.sessions ≤ most_sessions
  pub short : (s i : ℕ) (plan : SessionPlan) (planned : Planned) → slice_get roster.sessions s ≡ Some plan → slice_get plan.planned i ≡ Some planned → i < most_commands
  pub each : (s i : ℕ) (plan : SessionPlan) (planned : Planned) → slice_get roster.sessions s ≡ Some plan → slice_get plan.planned i ≡ Some planned → InForm planned.command

-- what holds of each of a list holds of the one at a place
there : {A : Type 0} (P : A → Type 0) (xs : List A) (i : ℕ) (x : A) → slice_get xs i ≡ Some x → AllByRecursion P xs → P x
there P xs i x is all = subst P (get_or_from_slice_get xs i x x is) (all_at P xs i x (slice_get_within xs i x is) all)

-- ---- one line

-- parts in form are parts, each in form
pub each_part : (transaction : List Part) → IsParts transaction → AllByRecursion IsPart transaction
each_part [] form = tt
each_part (part ∷ others) form = form

-- parts without a fault are a transaction
no_error : (before : List ScriptLine) (o : Option TxnError) → parts_fault before o ≡ None → o ≡ None
no_error before None none = refl
no_error before (Some error) none = absurd cc

-- keys in a script are keys of a journal, where they are few and no two are equal
keys_form : (keys : List (List ℕ)) → lines.IsKeys keys → length keys < suc most_keys → repeats keys ≡ false → IsKeys keys
keys_form [] form few apart = absurd form
keys_form (key ∷ keys) form few apart = record { some = omega arith; few = omega (arith, few); each = form; apart = apart }

-- the command of a line that has no fault is in form
line_form : (gateways : ℕ) (before : List ScriptLine) (line : ScriptLine) (name : List ℕ) (command : Command) → IsLine line → fault_of gateways before line ≡ None
    → command_by name line ≡ Some command → InForm command
line_form gateways before (Session declared gate) name command form none is = absurd cc
line_form gateways before (Do session transaction) name command form none is =
    let q = chosen (bytes_eq session name) (Some (commands.Transact transaction)) command is in
    let same : ◌≡◌ {A = Command} (commands.Transact transaction) command = same_Some (commands.Transact transaction) command q.1 in
    let right : transaction_error transaction ≡ None = no_error before (transaction_error transaction) (chosen_none (is_declared session before) _ _ none) in
    subst InForm same (form.1, record { form = right; positive = parts_positive transaction form.1 })
line_form gateways before (Snap session keys) name command form none is =
    let q = chosen (bytes_eq session name) (Some (commands.Snap keys)) command is in
    let same : ◌≡◌ {A = Command} (commands.Snap keys) command = same_Some (commands.Snap keys) command q.1 in
    let first = chosen_none (is_declared session before) _ _ none in
    let second = passed (leb (suc most_keys) (length keys)) _ _ first in
    let third = passed (repeats keys) _ _ second.1 in
    subst InForm same (keys_form keys form.1 (leb-false (suc most_keys) (length keys) second.0) third.0)
line_form gateways before (After session other seq) name command form none is = absurd cc

-- ---- all lines

-- the commands of a session are in form
planned_form : (gateways : ℕ) (before lines : List ScriptLine) (names : List (List ℕ)) (name : List ℕ) (waiting : List waits.After) → Follow gateways before lines
    → AllByRecursion (λ (planned : Planned). InForm planned.command) (planned_from names name waiting lines)
planned_form gateways before [] names name waiting follow = tt
planned_form gateways before (line ∷ lines) names name waiting follow =
    by (command_by name line) refl _ (planned_form gateways (before ++ line ∷ []) lines (names_by names line) name (waiting_by names name waiting line) follow.2)
  where
    by : (o : Option Command) → command_by name line ≡ o → (rest : List Planned) → AllByRecursion (λ (planned : Planned). InForm planned.command) rest
        → AllByRecursion (λ (planned : Planned). InForm planned.command) (plan_by waiting o ++ rest)
    by None is rest each = each
    by (Some command) is rest each = (line_form gateways before line name command follow.0 follow.1 is, each)

-- each plan of the roster is that of a session
plan_session : (lines : List ScriptLine) (s : ℕ) (plan : SessionPlan) → slice_get (roster_of lines).sessions s ≡ Some plan → (session : List ℕ × ℕ) × (plan ≡ plan_of lines session)
plan_session lines s plan is = by (slice_get (sessions_of lines) s) (sym (slice_get-map (plan_of lines) (sessions_of lines) s) ∙ is)
  where
    by : (o : Option (List ℕ × ℕ)) → option_map (plan_of lines) o ≡ Some plan → (session : List ℕ × ℕ) × (plan ≡ plan_of lines session)
    by None e = absurd cc
    by (Some session) e = (session, sym (same_Some (plan_of lines session) plan e))

-- the roster of a script is one of commands in form
pub script_scripted : (script : Content) → IsScript script → IsScripted (roster_of script.lines)
script_scripted script is =
    let roster = script_roster script is in
    record {
      few = roster.few;
      short = λ s i plan planned here at.
          let most : length plan.planned ≤ most_commands = there (λ (one : SessionPlan). length one.planned ≤ most_commands) (roster_of script.lines).sessions s plan here roster.short in
          let within : i < length plan.planned = slice_get_within plan.planned i planned at in
          omega (arith, most, within);
      each = λ s i plan planned here at.
          let of = plan_session script.lines s plan here in
          let all : AllByRecursion (λ (one : Planned). InForm one.command) plan.planned
          = subst (λ (one : SessionPlan). AllByRecursion (λ (p : Planned). InForm p.command) one.planned) (sym of.1) (planned_form script.gateways [] script.lines [] (of.0).0 [] is) in
          there (λ (one : Planned). InForm one.command) plan.planned i planned at all;
    }
