-- How what the lines say grows by one line at the end.
use Rattle.std.proofs.Common.{◌≡◌, ℕ, ◌+◌, ◌≤◌, List, [], ◌∷◌, ◌++◌, map, length, Option, Some, None, refl, sym, ap, ◌∙◌, arith, append_assoc, length-append, inl, inr}
use Rattle.std.specs.Str.{bytes_eq}
use Rattle.std.proofs.lemmas.Bool.{cases_Bool}
use Rattle.std.proofs.lemmas.List.{append-nil, map-append}
use Rattle.ov_functor.specs.declared.command.Command.{Command}
use Rattle.ov_session.specs.declared.after.After as waits
use Rattle.ov_session.specs.declared.planned.Planned.{Planned}
use Rattle.ov_script.specs.Line.{IsLine}
use Rattle.ov_script.specs.Sessions.{sessions_of, names_of, names_by, command_by, counted, commands_in, plan_by, waiting_by, waiting_from, planned_from, order_by, order_from, order_of}
use Rattle.ov_script.specs.Faults.{fault_of}
use Rattle.ov_script.specs.Script.{Follow}
use Rattle.ov_script.specs.declared.line.ScriptLine.{ScriptLine}
use Rattle.ov_script.specs.declared.line.ScriptLine.TheVariants.{Session, Do, Snap, After}
use Rattle.ov_script.specs.declared.order.CommandAt.{CommandAt}

pub sessions_more : (lines : List ScriptLine) (line : ScriptLine) → sessions_of (lines ++ line ∷ []) ≡ sessions_of lines ++ sessions_of (line ∷ [])
sessions_more [] line = refl
sessions_more (Session name gate ∷ lines) line = ap (λ (t : List (List ℕ × ℕ)). (name, gate) ∷ t) (sessions_more lines line)
sessions_more (Do session parts ∷ lines) line = sessions_more lines line
sessions_more (Snap session keys ∷ lines) line = sessions_more lines line
sessions_more (After session other seq ∷ lines) line = sessions_more lines line

pub names_more : (lines : List ScriptLine) (line : ScriptLine) → names_of (lines ++ line ∷ []) ≡ names_by (names_of lines) line
names_more lines line =
    ap (map (λ (session : List ℕ × ℕ). session.0)) (sessions_more lines line)
    ∙ map-append (λ (session : List ℕ × ℕ). session.0) (sessions_of lines) (sessions_of (line ∷ []))

names_first : (line : ScriptLine) (lines : List ScriptLine) → names_of (line ∷ lines) ≡ names_of (line ∷ []) ++ names_of lines
names_first (Session name gate) lines = refl
names_first (Do session parts) lines = refl
names_first (Snap session keys) lines = refl
names_first (After session other seq) lines = refl

names_behind : (names : List (List ℕ)) (line : ScriptLine) (lines : List ScriptLine) → names_by names line ++ names_of lines ≡ names ++ names_of (line ∷ lines)
names_behind names line lines =
    append_assoc names (names_of (line ∷ [])) (names_of lines) ∙ ap (λ (t : List (List ℕ)). names ++ t) (sym (names_first line lines))

pub waiting_more : (names : List (List ℕ)) (name : List ℕ) (waiting : List waits.After) (lines : List ScriptLine) (line : ScriptLine)
    → waiting_from names name waiting (lines ++ line ∷ []) ≡ waiting_by (names ++ names_of lines) name (waiting_from names name waiting lines) line
waiting_more names name waiting [] line = ap (λ (t : List (List ℕ)). waiting_by t name waiting line) (sym (append-nil names))
waiting_more names name waiting (first ∷ lines) line =
    waiting_more (names_by names first) name (waiting_by names name waiting first) lines line
    ∙ ap (λ (t : List (List ℕ)). waiting_by t name (waiting_from names name waiting (first ∷ lines)) line) (names_behind names first lines)

pub planned_more : (names : List (List ℕ)) (name : List ℕ) (waiting : List waits.After) (lines : List ScriptLine) (line : ScriptLine)
    → planned_from names name waiting (lines ++ line ∷ []) ≡ planned_from names name waiting lines ++ plan_by (waiting_from names name waiting lines) (command_by name line)
planned_more names name waiting [] line = append-nil (plan_by waiting (command_by name line))
planned_more names name waiting (first ∷ lines) line =
    ap (λ (t : List Planned). plan_by waiting (command_by name first) ++ t) (planned_more (names_by names first) name (waiting_by names name waiting first) lines line)
    ∙ sym (append_assoc (plan_by waiting (command_by name first)) (planned_from (names_by names first) name (waiting_by names name waiting first) lines) _)

plan_count : (waiting : List waits.After) (command : Option Command) → length (plan_by waiting command) ≡ counted command
plan_count waiting None = refl
plan_count waiting (Some command) = refl

pub planned_count : (names : List (List ℕ)) (name : List ℕ) (waiting : List waits.After) (lines : List ScriptLine) → length (planned_from names name waiting lines) ≡ commands_in name lines
planned_count names name waiting [] = refl
planned_count names name waiting (line ∷ lines) =
    length-append (plan_by waiting (command_by name line)) _
    ∙ ap (λ (t : ℕ). t + length (planned_from (names_by names line) name (waiting_by names name waiting line) lines)) (plan_count waiting (command_by name line))
    ∙ ap (λ (t : ℕ). counted (command_by name line) + t) (planned_count (names_by names line) name (waiting_by names name waiting line) lines)

pub order_more : (before lines : List ScriptLine) (line : ScriptLine) → order_from before (lines ++ line ∷ []) ≡ order_from before lines ++ order_by (before ++ lines) line
order_more before [] line = append-nil (order_by before line) ∙ ap (λ (t : List ScriptLine). order_by t line) (sym (append-nil before))
order_more before (first ∷ lines) line =
    ap (λ (t : List CommandAt). order_by before first ++ t)
    (order_more (before ++ first ∷ []) lines line
    ∙ ap (λ (t : List ScriptLine). order_from (before ++ first ∷ []) lines ++ order_by t line) (append_assoc before (first ∷ []) lines))
    ∙ sym (append_assoc (order_by before first) (order_from (before ++ first ∷ []) lines) (order_by (before ++ first ∷ lines) line))

pub follow_more : (gateways : ℕ) (before lines : List ScriptLine) (line : ScriptLine) → Follow gateways before lines → IsLine line → fault_of gateways (before ++ lines) line ≡ None
    → Follow gateways before (lines ++ line ∷ [])
follow_more gateways before [] line all form none = (form, ap (λ (t : List ScriptLine). fault_of gateways t line) (sym (append-nil before)) ∙ none, tt)
follow_more gateways before (first ∷ lines) line all form none =
    (all.0, all.1, follow_more gateways (before ++ first ∷ []) lines line all.2 form (ap (λ (t : List ScriptLine). fault_of gateways t line) (append_assoc before (first ∷ []) lines) ∙ none))

counted_in_line : (before : List ScriptLine) (name : List ℕ) (line : ScriptLine) → counted (command_by name line) ≤ length (order_by before line)
counted_in_line before name (Session declared gate) = omega arith
counted_in_line before name (Do session parts) =
    elim (cases_Bool (bytes_eq session name)) [ inl h ↦ rw h (omega arith) | inr h ↦ rw h (omega arith) ]
counted_in_line before name (Snap session keys) =
    elim (cases_Bool (bytes_eq session name)) [ inl h ↦ rw h (omega arith) | inr h ↦ rw h (omega arith) ]
counted_in_line before name (After session other seq) = omega arith

counted_in : (before lines : List ScriptLine) (name : List ℕ) → commands_in name lines ≤ length (order_from before lines)
counted_in before [] name = omega arith
counted_in before (line ∷ lines) name =
    omega (arith, counted_in_line before name line, counted_in (before ++ line ∷ []) lines name, length-append (order_by before line) (order_from (before ++ line ∷ []) lines))

-- no session has more commands than all sessions
pub counted_in_order : (name : List ℕ) (lines : List ScriptLine) → commands_in name lines ≤ length (order_of lines)
counted_in_order name lines = counted_in [] lines name
