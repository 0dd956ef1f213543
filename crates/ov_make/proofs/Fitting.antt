-- Why no line of the made script has a fault: its session is declared by then, its keys differ, and there is room for its command.
use Rattle.std.proofs.Common.{◌≡◌, ℕ, zero, suc, ◌+◌, ◌/◌, ◌%◌, ◌^◌, ◌<◌, ◌≤◌, true, false, cond, eqb, List, [], ◌∷◌, map, length, Some, None, Option, is_some, refl, ap, ◌∙◌, arith}
use Rattle.std.specs.Prelude.{pos, is_none}
use Rattle.ov_functor.specs.Words.{IsPart}
use Rattle.std.specs.List.{range_with_len, AllByRecursion}
use Rattle.std.specs.Fmt.{digits}
use Rattle.std.proofs.lemmas.Bool.{agree_below, lt-leb, le-leb}
use Rattle.ov_base.specs.Key.{key_eq}
use Rattle.ov_functor.specs.Transaction.{transaction_error}
use Rattle.ov_functor.specs.declared.part.Part.{Part}
use Rattle.ov_functor.specs.declared.part.Part.TheVariants.{Put, Move, Get}
use Rattle.ov_script.specs.Line.{IsLine}
use Rattle.ov_script.specs.Sessions.{place_in, commands_in, order_of}
use Rattle.ov_script.specs.Faults.{is_declared, commands_fault, fault_of}
use Rattle.ov_script.specs.declared.line.ScriptLine.{ScriptLine}
use Rattle.ov_script.specs.declared.line.ScriptLine.TheVariants.{Do, After}
use Rattle.ov_make.specs.Made.{session_name, key_name, sessions, opening_balance, too_much, first_key, second_key, chosen_amount, session_line, session_lines, puts, puts_line, mover_of, move_line, snap_line, middle_by, middle_line, number_behind, gets, gets_line}
use Rattle.ov_script.specs.Script.{Content}
use Rattle.ov_script.specs.Written.{MayStand}
use Rattle.ov_script.proofs.OneMore.{counted_in_order}
use Rattle.ov_make.specs.Progress.{holding, IsOpen}
use Rattle.ov_make.proofs.Tables.{passed_below, session_named, key_named, keys_apart}

nothing : {A : Type 0} (o : Option A) → is_none o ≡ true → o ≡ None
nothing None e = refl
nothing (Some x) e = absurd cc

-- ---- the sessions

-- so many sessions
abbrev pub declared : ℕ → List ScriptLine
declared count = map session_line (range_with_len 0 count)

session_table : agree_below (λ j. is_none (fault_of 3 (declared j) (session_line j))) (λ j. true) sessions ≡ true
unfolding session_name digits
session_table = refl

-- a session may stand behind those before it
pub session_fits : (j : ℕ) → j < sessions → MayStand (holding (declared j)) (session_line j)
session_fits j h = (
  (session_named j h, omega arith),
  nothing (fault_of 3 (declared j) (session_line j)) (passed_below (λ i. is_none (fault_of 3 (declared i) (session_line i))) sessions j session_table h),
)

-- ---- lines behind all sessions

declared_table : agree_below (λ j. is_declared (session_name j) session_lines) (λ j. true) sessions ≡ true
unfolding session_name session_lines digits
declared_table = refl

-- in an open script each session is declared
pub session_there : (script : Content) (more j : ℕ) → IsOpen script more → j < sessions → is_declared (session_name j) script.lines ≡ true
session_there script more j all h =
    ap (λ (s : List (List ℕ × ℕ)). is_some (place_in (session_name j) (map (λ (session : List ℕ × ℕ). session.0) s))) all.sessions
    ∙ passed_below (λ i. is_declared (session_name i) session_lines) sessions j declared_table h

-- and it has no fault that it is full
pub no_full : (script : Content) (more : ℕ) → IsOpen script more → 1 ≤ more → commands_fault script.lines ≡ None
no_full script more all h = rw (lt-leb 4000 (length (order_of script.lines)) (omega (arith, all.room))) refl

-- a transaction may stand in an open script
pub do_none : (script : Content) (more j : ℕ) (parts : List Part) → IsOpen script more → 1 ≤ more → j < sessions → transaction_error parts ≡ None
    → fault_of script.gateways script.lines (Do (session_name j) parts) ≡ None
do_none script more j parts all room h e = rw (session_there script more j all h, e) (no_full script more all room)

-- ---- the puts and the gets

all_parts : (part : ℕ → Part) (a n : ℕ) → ((k : ℕ) → k < a + n → IsPart (part k)) → AllByRecursion IsPart (map part (range_with_len a n))
all_parts part a zero each = tt
all_parts part a (suc n) each = (each a (omega arith), all_parts part (a + 1) n (λ k h. each k (omega arith)))

puts_form : IsLine puts_line
unfolding puts
puts_form = (session_named 0 (omega arith), all_parts (λ k. Put (key_name k) (pos opening_balance)) 0 8 (λ k h. (key_named k (omega arith), omega arith)))

puts_error : transaction_error puts ≡ None
unfolding puts key_name key_eq digits
puts_error = refl

-- the puts may stand in an open script
pub puts_fit : (script : Content) (more : ℕ) → IsOpen script more → 1 ≤ more → MayStand script puts_line
puts_fit script more all room = (puts_form, do_none script more 0 puts all room (omega arith) puts_error)

gets_form : IsLine gets_line
unfolding gets
gets_form = (session_named 0 (omega arith), all_parts (λ k. Get (key_name k)) 0 8 (λ k h. key_named k (omega arith)))

gets_error : transaction_error gets ≡ None
unfolding gets key_name key_eq digits
gets_error = refl

-- and so may the gets
pub gets_fit : (script : Content) (more : ℕ) → IsOpen script more → 1 ≤ more → MayStand script gets_line
gets_fit script more all room = (gets_form, do_none script more 0 gets all room (omega arith) gets_error)

-- ---- waits

-- a session may wait for a command that another one has
pub after_fits : (script : Content) (more j k c : ℕ) → IsOpen script more → j < sessions → k < sessions → 1 ≤ c → c ≤ commands_in (session_name k) script.lines
    → MayStand script (After (session_name j) (session_name k) c)
after_fits script more j k c all first second some there = (
  (session_named j first, session_named k second, some, omega (arith, all.room, counted_in_order (session_name k) script.lines)),
  rw (session_there script more j all first, session_there script more k all second, lt-leb (suc (commands_in (session_name k) script.lines)) c (omega arith)) refl,
)

-- ---- middle commands

apart : (x : ℕ) → key_eq (key_name (first_key x)) (key_name (second_key x)) ≡ false
apart x = keys_apart (first_key x) ((x / 2 ^ 40) % 7) (omega arith) (omega arith)

move_error : (x amount : ℕ) → transaction_error (Move (key_name (first_key x)) (key_name (second_key x)) (pos amount) ∷ []) ≡ None
move_error x amount = rw (apart x) refl

move_fits : (script : Content) (more j x amount : ℕ) → IsOpen script more → 1 ≤ more → j < sessions → 1 ≤ amount → amount ≤ too_much → MayStand script (move_line j x amount)
move_fits script more j x amount all room h some few = (
  (session_named j h, ((key_named (first_key x) (omega arith), key_named (second_key x) (omega arith), omega arith, le-leb 1 amount some), tt)),
  do_none script more j (Move (key_name (first_key x)) (key_name (second_key x)) (pos amount) ∷ []) all room h (move_error x amount),
)

snap_fits : (script : Content) (more j x : ℕ) → IsOpen script more → 1 ≤ more → j < sessions → MayStand script (snap_line j x)
snap_fits script more j x all room h = (
  (session_named j h, (key_named (first_key x) (omega arith), (key_named (second_key x) (omega arith), tt))),
  rw (session_there script more j all h, apart x) (no_full script more all room),
)

-- what holds of moves and of snapshots holds of each middle command
pub middle_cases : (P : ScriptLine → Type 0) (i x : ℕ) → ((amount : ℕ) → 1 ≤ amount → amount ≤ too_much → P (move_line (mover_of i) x amount)) → P (snap_line (mover_of i) x) → P (middle_by i x)
middle_cases P i x move snap =
    elim (eqb (i % 10) 0) as (λ b. P (cond b (move_line (mover_of i) x too_much) (cond (eqb (i % 10) 5) (snap_line (mover_of i) x) (move_line (mover_of i) x (chosen_amount x))))) [
      | true ↦ move too_much (omega arith) (omega arith)
      | false ↦
          elim (eqb (i % 10) 5) as (λ b. P (cond b (snap_line (mover_of i) x) (move_line (mover_of i) x (chosen_amount x)))) [
            | true ↦ snap
            | false ↦ move (chosen_amount x) (omega arith) (omega arith)
          ]
    ]

-- each middle command may stand in an open script
pub middle_fits : (script : Content) (more number i : ℕ) → IsOpen script more → 1 ≤ more → MayStand script (middle_line number i)
unfolding middle_line
middle_fits script more number i all room =
    middle_cases (MayStand script) i (number_behind number i)
    (λ amount some few. move_fits script more (mover_of i) (number_behind number i) amount all room (omega arith) some few)
    (snap_fits script more (mover_of i) (number_behind number i) all room (omega arith))
