-- The whole made script: it is a script, for the gateways of its topology, with as many commands as were asked for.
use Rattle.std.proofs.Common.{◌≡◌, ℕ, zero, suc, ◌+◌, ◌-◌, ◌<◌, ◌≤◌, List, [], ◌∷◌, ◌++◌, map, length, refl, sym, ap, subst, ◌∙◌, add-one, zero-add, arith, rules, append_assoc, inl, inr}
use Rattle.std.specs.List.{range_with_len}
use Rattle.std.specs.Fmt.{digits}
use Rattle.std.proofs.lemmas.Bool.Decides.{leb_tells}
use Rattle.std.proofs.lemmas.List.{append-nil}
use Rattle.std.proofs.lemmas.List.FromFn.{map-range_with_len_more}
use Rattle.ov_topology.specs.Shape.{IsShape, gates}
use Rattle.ov_script.specs.Script.{Content, Follow, IsScript}
use Rattle.ov_script.specs.Sessions.{commands_in, order_of}
use Rattle.ov_script.specs.Written.{MayStand}
use Rattle.ov_script.specs.declared.line.ScriptLine.{ScriptLine}
use Rattle.ov_script.specs.declared.line.ScriptLine.TheVariants.{Do, After}
use Rattle.ov_functor.specs.declared.part.Part.{Part}
use Rattle.ov_script.proofs.OneMore.{follow_more}
use Rattle.ov_make.specs.Made.{made_topology, session_name, sessions, movers, session_line, session_lines, puts, puts_line, first_wait, first_waits, middle_line, middle_lines, wait_for, last_wait, last_waits, gets, gets_line, lines_ahead, made_lines, made_script}
use Rattle.ov_make.specs.Progress.{holding, IsOpen, with_lines}
use Rattle.ov_make.proofs.Counting.{commands_on, order_length, on_append}
use Rattle.ov_make.proofs.Fitting.{declared, session_fits, puts_fit, gets_fit}
use Rattle.ov_make.proofs.Growing.{open_behind, open_sessions, open_first_waits, first_wait_at, open_middle, middle_at, middle_count, awaited, open_awaited, awaited_more, awaited_none, last_wait_at}

-- the topology is in its ranges
pub made_shape : IsShape made_topology
made_shape = search rules

-- ---- the script stays open

pub open_funded : IsOpen (holding (session_lines ++ puts_line ∷ [])) 3999
open_funded = open_behind (holding session_lines) (puts_line ∷ []) 4000 3999 open_sessions refl (omega arith)

pub funded_once : commands_in (session_name 0) (session_lines ++ puts_line ∷ []) ≡ 1
unfolding session_name session_lines digits
funded_once = refl

pub open_opening : IsOpen (holding (session_lines ++ puts_line ∷ [] ++ first_waits)) 3999
unfolding first_waits
open_opening = open_first_waits (holding (session_lines ++ puts_line ∷ [])) 3999 movers open_funded

pub open_ahead : (number commands : ℕ) → 2 ≤ commands → commands ≤ 4000 → IsOpen (holding (lines_ahead number commands)) 1
open_ahead number commands some few = open_middle (holding (session_lines ++ puts_line ∷ [] ++ first_waits)) 3999 1 number (commands - 2) open_opening (omega arith)

pub open_behind_waits : (number commands : ℕ) → 2 ≤ commands → commands ≤ 4000 → IsOpen (holding (lines_ahead number commands ++ last_waits (lines_ahead number commands))) 1
open_behind_waits number commands some few = open_awaited (holding (lines_ahead number commands)) 1 movers (lines_ahead number commands) (open_ahead number commands some few)

-- ---- lines that follow others

follow_append : (before xs ys : List ScriptLine) → Follow 3 before xs → Follow 3 (before ++ xs) ys → Follow 3 before (xs ++ ys)
follow_append before [] ys first second = subst (λ (t : List ScriptLine). Follow 3 t ys) (append-nil before) second
follow_append before (line ∷ xs) ys first second =
    (first.0, first.1, follow_append (before ++ line ∷ []) xs ys first.2 (subst (λ (t : List ScriptLine). Follow 3 t ys) (sym (append_assoc before (line ∷ []) xs)) second))

follow_one : (before : List ScriptLine) (line : ScriptLine) → MayStand (holding before) line → Follow 3 before (line ∷ [])
follow_one before line stands = (stands.0, stands.1, tt)

follow_each : (before : List ScriptLine) (f : ℕ → ScriptLine) (a n : ℕ) → ((k : ℕ) → k < n → MayStand (holding (before ++ map f (range_with_len a k))) (f (a + k)))
    → Follow 3 before (map f (range_with_len a n))
follow_each before f a zero each = tt
follow_each before f a (suc n) each =
    let more : map f (range_with_len a (suc n)) ≡ map f (range_with_len a n) ++ f (a + n) ∷ [] =
    ap (λ (m : ℕ). map f (range_with_len a m)) (sym (add-one n)) ∙ map-range_with_len_more f a n (a + n) refl in
    let stands = each n (omega arith) in
    subst (Follow 3 before) (sym more) (follow_more 3 before (map f (range_with_len a n)) (f (a + n)) (follow_each before f a n (λ k h. each k (omega arith))) stands.0 stands.1)

-- ---- the made script is one

sessions_follow : Follow 3 [] session_lines
unfolding session_lines
sessions_follow = follow_each [] session_line 0 sessions (λ k h. subst (λ (j : ℕ). MayStand (holding (declared k)) (session_line j)) (sym (zero-add k)) (session_fits k h))

first_waits_follow : Follow 3 (session_lines ++ puts_line ∷ []) first_waits
unfolding first_waits
first_waits_follow =
    follow_each (session_lines ++ puts_line ∷ []) first_wait 1 movers
    (λ k h. first_wait_at (holding (session_lines ++ puts_line ∷ [])) 3999 k (1 + k) open_funded (omega (arith, funded_once)) (omega arith))

middle_follow : (number n : ℕ) → n < 3999 → Follow 3 (session_lines ++ puts_line ∷ [] ++ first_waits) (middle_lines number n)
middle_follow number n few =
    follow_each (session_lines ++ puts_line ∷ [] ++ first_waits) (middle_line number) 1 n
    (λ k h. middle_at (holding (session_lines ++ puts_line ∷ [] ++ first_waits)) 3999 number k (1 + k) open_opening (omega arith))

wait_follows : (lines : List ScriptLine) (j c : ℕ) → (1 ≤ c → MayStand (holding lines) (After (session_name 0) (session_name j) c)) → Follow 3 lines (wait_for j c)
wait_follows lines j c stands =
    elim (leb_tells 1 c) [
      | inl some ↦ rw some.0 (follow_one lines (After (session_name 0) (session_name j) c) (stands some.1))
      | inr none ↦ rw none.0 tt
    ]

last_waits_follow : (lines : List ScriptLine) (more n : ℕ) → IsOpen (holding lines) more → n ≤ movers → Follow 3 lines (awaited lines n)
last_waits_follow lines more zero all few = tt
last_waits_follow lines more (suc n) all few =
    subst (Follow 3 lines) (sym (awaited_more lines n))
    (follow_append lines (awaited lines n) (last_wait lines (1 + n)) (last_waits_follow lines more n all (omega arith))
    (wait_follows (lines ++ awaited lines n) (1 + n) (commands_in (session_name (1 + n)) lines) (last_wait_at (holding lines) more n (1 + n) all (omega arith))))

-- the made script is a script
pub made_is_script : (number commands : ℕ) → 2 ≤ commands → commands ≤ 4000 → IsScript (made_script number commands)
unfolding made_script
made_is_script number commands some few =
    let funded = follow_append [] session_lines (puts_line ∷ []) sessions_follow (follow_one session_lines puts_line (puts_fit (holding session_lines) 4000 open_sessions (omega arith))) in
    let opening = follow_append [] (session_lines ++ puts_line ∷ []) first_waits funded first_waits_follow in
    let ahead = follow_append [] (session_lines ++ puts_line ∷ [] ++ first_waits) (middle_lines number (commands - 2)) opening (middle_follow number (commands - 2) (omega arith)) in
    let waited =
    follow_append [] (lines_ahead number commands) (last_waits (lines_ahead number commands)) ahead
    (last_waits_follow (lines_ahead number commands) 1 movers (open_ahead number commands some few) (omega arith)) in
    follow_append [] (lines_ahead number commands ++ last_waits (lines_ahead number commands)) (gets_line ∷ []) waited
    (follow_one (lines_ahead number commands ++ last_waits (lines_ahead number commands)) gets_line
    (gets_fit (holding (lines_ahead number commands ++ last_waits (lines_ahead number commands))) 1 (open_behind_waits number commands some few) (omega arith)))

opening_count : commands_on (session_lines ++ puts_line ∷ [] ++ first_waits) ≡ 1
unfolding session_lines first_waits
opening_count = refl

-- for the gateways of the made topology
pub made_gateways : (number commands : ℕ) → (made_script number commands).gateways ≡ gates made_topology
unfolding made_script
made_gateways number commands = refl

-- with so many commands
pub made_count : (number commands : ℕ) → 2 ≤ commands → length (order_of (made_script number commands).lines) ≡ commands
unfolding made_script
made_count number commands some =
    omega (
      arith,
      order_length (made_lines number commands),
      on_append (lines_ahead number commands ++ last_waits (lines_ahead number commands)) (gets_line ∷ []),
      on_append (lines_ahead number commands) (last_waits (lines_ahead number commands)),
      awaited_none (lines_ahead number commands) movers,
      on_append (session_lines ++ puts_line ∷ [] ++ first_waits) (middle_lines number (commands - 2)),
      opening_count,
      middle_count number (commands - 2),
    )

-- ---- steps of the code

-- behind the sessions and a transaction that puts
pub funded_is : (script before : Content) (parts : List Part) → script ≡ with_lines before (Do (session_name 0) parts ∷ []) → before ≡ holding session_lines → parts ≡ puts
    → script ≡ holding (session_lines ++ puts_line ∷ [])
funded_is script before parts added is puts_are = added ∙ rw (is, puts_are) refl

-- behind the middle commands
pub ahead_is : (script before : Content) (number commands : ℕ) → script ≡ with_lines before (middle_lines number (commands - 2))
    → before ≡ holding (session_lines ++ puts_line ∷ [] ++ first_waits) → script ≡ holding (lines_ahead number commands)
ahead_is script before number commands added is = added ∙ rw is refl

-- behind the last waits
pub waited_is : (script before : Content) (number commands : ℕ) → script ≡ with_lines before (last_waits before.lines) → before ≡ holding (lines_ahead number commands)
    → script ≡ holding (lines_ahead number commands ++ last_waits (lines_ahead number commands))
waited_is script before number commands added is = added ∙ ap (λ (s : Content). with_lines s (last_waits s.lines)) is

-- behind a transaction that gets
pub made_is : (script before : Content) (parts : List Part) (number commands : ℕ) → script ≡ with_lines before (Do (session_name 0) parts ∷ [])
    → before ≡ holding (lines_ahead number commands ++ last_waits (lines_ahead number commands)) → parts ≡ gets → script ≡ made_script number commands
unfolding made_script
made_is script before parts number commands added is gets_are = added ∙ rw (is, gets_are) refl
