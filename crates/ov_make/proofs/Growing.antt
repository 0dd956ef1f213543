-- How the made script grows, part by part: it stays open, and each part may stand where it stands.
use Rattle.std.proofs.Common.{◌≡◌, ℕ, zero, suc, ◌+◌, ◌-◌, ◌<◌, ◌≤◌, true, false, cond, leb, List, [], ◌∷◌, ◌++◌, map, refl, sym, ap, ◌∙◌, add-one, arith, append_assoc}
use Rattle.std.specs.List.{range_with_len, flat_map}
use Rattle.std.proofs.lemmas.List.{append-nil}
use Rattle.std.proofs.lemmas.List.FromFn.{length-range_with_len, map-range_with_len_more}
use Rattle.std.proofs.lemmas.Grind.{flat_map-append}
use Rattle.ov_script.specs.Script.{Content}
use Rattle.ov_script.specs.Sessions.{sessions_of, commands_in}
use Rattle.ov_script.specs.Written.{MayStand}
use Rattle.ov_script.specs.declared.line.ScriptLine.{ScriptLine}
use Rattle.ov_script.specs.declared.line.ScriptLine.TheVariants.{After}
use Rattle.ov_make.specs.Made.{session_name, sessions, session_lines, first_wait, middle_by, middle_line, middle_lines, number_behind, next_number, wait_for, last_wait}
use Rattle.ov_make.specs.Progress.{holding, IsOpen, with_lines}
use Rattle.ov_make.proofs.Counting.{sessions_append, sessions_none, sessions_none_all, commands_append, commands_none_all, commands_on, order_length, on_append, on_none, on_none_all, on_each}
use Rattle.ov_make.proofs.Fitting.{middle_cases, middle_fits, after_fits}

-- ---- lists of numbers

-- a number more at the end
pub range_more : (a n : ℕ) → range_with_len a (suc n) ≡ range_with_len a n ++ (a + n) ∷ []
range_more a zero = ap (λ (t : ℕ). t ∷ []) (omega arith)
range_more a (suc n) =
    ap (λ (t : List ℕ). a ∷ t) (range_more (a + 1) n ∙ ap (λ (t : ℕ). range_with_len (a + 1) n ++ t ∷ []) (omega arith))

-- ---- an open script stays open

-- behind lines that declare no session and have so many commands
pub open_behind : (script : Content) (lines : List ScriptLine) (more left : ℕ) → IsOpen script more → sessions_of lines ≡ [] → commands_on lines + left ≤ more → IsOpen (with_lines script lines) left
open_behind script lines more left all none few = record {
  gateways = all.gateways;
  sessions = sessions_append script.lines lines ∙ rw (none, append-nil (sessions_of script.lines)) all.sessions;
  room = omega (arith, all.room, order_length script.lines, order_length (script.lines ++ lines), on_append script.lines lines);
}

-- with less room
pub open_less : (script : Content) (more less : ℕ) → IsOpen script more → less ≤ more → IsOpen script less
open_less script more less all few = record { gateways = all.gateways; sessions = all.sessions; room = omega (arith, all.room) }

-- where all sessions are declared
pub open_sessions : IsOpen (holding session_lines) 4000
unfolding session_lines
open_sessions = record { gateways = refl; sessions = refl; room = omega arith }

-- ---- waits for the puts

pub open_first_waits : (script : Content) (more n : ℕ) → IsOpen script more → IsOpen (with_lines script (map first_wait (range_with_len 1 n))) more
open_first_waits script more n all =
    open_behind script (map first_wait (range_with_len 1 n)) more more all (sessions_none first_wait (range_with_len 1 n) (λ i. refl))
    (omega (arith, on_none first_wait (range_with_len 1 n) (λ i. refl)))

-- a session may wait for the first command of session 0, which is still there
pub first_wait_at : (script : Content) (more n j : ℕ) → IsOpen script more → 1 ≤ commands_in (session_name 0) script.lines → j < sessions
    → MayStand (with_lines script (map first_wait (range_with_len 1 n))) (first_wait j)
first_wait_at script more n j all some h =
    after_fits (with_lines script (map first_wait (range_with_len 1 n))) more j 0 1 (open_first_waits script more n all) h (omega arith) (omega arith)
    (omega (arith, some, commands_append (session_name 0) script.lines (map first_wait (range_with_len 1 n))))

-- ---- middle commands

middle_session : (number i : ℕ) → sessions_of (middle_line number i ∷ []) ≡ []
unfolding middle_line
middle_session number i = middle_cases (λ line. sessions_of (line ∷ []) ≡ []) i (number_behind number i) (λ amount some few. refl) refl

middle_command : (number i : ℕ) → commands_on (middle_line number i ∷ []) ≡ 1
unfolding middle_line
middle_command number i = middle_cases (λ line. commands_on (line ∷ []) ≡ 1) i (number_behind number i) (λ amount some few. refl) refl

pub middle_count : (number n : ℕ) → commands_on (middle_lines number n) ≡ n
middle_count number n = on_each (middle_line number) (range_with_len 1 n) (middle_command number) ∙ length-range_with_len 1 n

pub open_middle : (script : Content) (more left number n : ℕ) → IsOpen script more → n + left ≤ more → IsOpen (with_lines script (middle_lines number n)) left
open_middle script more left number n all few =
    open_behind script (middle_lines number n) more left all (sessions_none (middle_line number) (range_with_len 1 n) (middle_session number)) (omega (arith, middle_count number n))

-- a further one may stand behind them
pub middle_at : (script : Content) (more number n i : ℕ) → IsOpen script more → n < more → MayStand (with_lines script (middle_lines number n)) (middle_line number i)
middle_at script more number n i all h = middle_fits (with_lines script (middle_lines number n)) 1 number i (open_middle script more 1 number n all (omega arith)) (omega arith)

-- ---- the last waits

wait_session : (j c : ℕ) → sessions_of (wait_for j c) ≡ []
wait_session j c = elim (leb 1 c) as (λ b. sessions_of (cond b (After (session_name 0) (session_name j) c ∷ []) []) ≡ []) [ true ↦ refl | false ↦ refl ]

wait_command : (j c : ℕ) → commands_on (wait_for j c) ≡ 0
wait_command j c = elim (leb 1 c) as (λ b. commands_on (cond b (After (session_name 0) (session_name j) c ∷ []) []) ≡ 0) [ true ↦ refl | false ↦ refl ]

wait_of : (name : List ℕ) (j c : ℕ) → commands_in name (wait_for j c) ≡ 0
wait_of name j c = elim (leb 1 c) as (λ b. commands_in name (cond b (After (session_name 0) (session_name j) c ∷ []) []) ≡ 0) [ true ↦ refl | false ↦ refl ]

-- the lines behind which so many movers are waited for
abbrev pub awaited : List ScriptLine → ℕ → List ScriptLine
awaited lines n = flat_map (last_wait lines) (range_with_len 1 n)

-- they are no commands
pub awaited_none : (lines : List ScriptLine) (n : ℕ) → commands_on (awaited lines n) ≡ 0
awaited_none lines n = on_none_all (last_wait lines) (range_with_len 1 n) (λ j. wait_command j (commands_in (session_name j) lines))

pub open_awaited : (script : Content) (more n : ℕ) (lines : List ScriptLine) → IsOpen script more → IsOpen (with_lines script (awaited lines n)) more
open_awaited script more n lines all =
    open_behind script (awaited lines n) more more all (sessions_none_all (last_wait lines) (range_with_len 1 n) (λ j. wait_session j (commands_in (session_name j) lines)))
    (omega (arith, awaited_none lines n))

-- a session has as many commands there as before
pub commands_awaited : (name : List ℕ) (lines : List ScriptLine) (n : ℕ) → commands_in name (lines ++ awaited lines n) ≡ commands_in name lines
commands_awaited name lines n =
    omega (arith, commands_append name lines (awaited lines n), commands_none_all name (last_wait lines) (range_with_len 1 n) (λ j. wait_of name j (commands_in (session_name j) lines)))

-- one more mover is waited for
pub awaited_more : (lines : List ScriptLine) (n : ℕ) → awaited lines (suc n) ≡ awaited lines n ++ last_wait lines (1 + n)
awaited_more lines n =
    ap (flat_map (last_wait lines)) (range_more 1 n) ∙ flat_map-append (last_wait lines) (range_with_len 1 n) ((1 + n) ∷ [])
    ∙ ap (λ (t : List ScriptLine). awaited lines n ++ t) (append-nil (last_wait lines (1 + n)))

-- session 0 may wait for the last command of a session
pub last_wait_at : (script : Content) (more n j : ℕ) → IsOpen script more → j < sessions → 1 ≤ commands_in (session_name j) script.lines
    → MayStand (with_lines script (awaited script.lines n)) (After (session_name 0) (session_name j) (commands_in (session_name j) script.lines))
last_wait_at script more n j all h some =
    after_fits (with_lines script (awaited script.lines n)) more 0 j (commands_in (session_name j) script.lines) (open_awaited script more n script.lines all)
    (omega arith) h some (omega (arith, commands_awaited (session_name j) script.lines n))

-- ---- steps of the code

-- lines behind lines behind a script
pub grown : (new old first : Content) (xs ys zs : List ScriptLine) → new ≡ with_lines old ys → old ≡ with_lines first xs → zs ≡ xs ++ ys → new ≡ with_lines first zs
grown new old first xs ys zs added before is = added ∙ rw (before, append_assoc first.lines xs ys, is) refl

-- one line more, by the number of its session
pub map_next : (f : ℕ → ScriptLine) (j : ℕ) → 1 ≤ j → map f (range_with_len 1 (j + 1 - 1)) ≡ map f (range_with_len 1 (j - 1)) ++ f j ∷ []
map_next f j some =
    let more : j + 1 - 1 ≡ (j - 1) + 1 = omega arith in
    ap (λ (n : ℕ). map f (range_with_len 1 n)) more ∙ map-range_with_len_more f 1 (j - 1) j (omega arith)

-- the wait for one mover more, by what the lines before it say
pub awaited_next : (old first : Content) (j : ℕ) → 1 ≤ j → old ≡ with_lines first (awaited first.lines (j - 1)) → awaited first.lines (j + 1 - 1) ≡ awaited first.lines (j - 1) ++ last_wait old.lines j
awaited_next old first j some before =
    let same : commands_in (session_name j) old.lines ≡ commands_in (session_name j) first.lines =
    ap (λ (script : Content). commands_in (session_name j) script.lines) before ∙ commands_awaited (session_name j) first.lines (j - 1) in
    let next : 1 + (j - 1) ≡ j = omega arith in
    let more : j + 1 - 1 ≡ suc (j - 1) = omega arith in
    ap (awaited first.lines) more ∙ awaited_more first.lines (j - 1)
    ∙ ap (λ (i : ℕ). awaited first.lines (j - 1) ++ last_wait first.lines i) next
    ∙ ap (λ (c : ℕ). awaited first.lines (j - 1) ++ wait_for j c) (sym same)

-- the number of the next middle command
pub number_next : (number done x : ℕ) → x ≡ number_behind number done → next_number x ≡ number_behind number (done + 1)
number_next number done x is = ap next_number is ∙ ap (number_behind number) (sym (add-one done))

-- the next middle command
pub middle_next : (number done x : ℕ) → x ≡ number_behind number (done + 1) → middle_by (done + 1) x ≡ middle_line number (done + 1)
unfolding middle_line
middle_next number done x is = ap (middle_by (done + 1)) is
