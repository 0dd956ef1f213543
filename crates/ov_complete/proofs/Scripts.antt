-- The commands of a script in the order of its lines: each comes up for its reply behind all that it waits for. How many they are, and at which gateways.
use Rattle.std.proofs.Common.{◌≡◌, ℕ, zero, suc, ◌+◌, ◌≤◌, ◌<◌, ◌⊎◌, Bool, true, false, not, cond, leb, Option, Some, None, is_some, List, [], ◌∷◌, ◌++◌, map, length, get_or, refl, sym, ap, subst, ◌∙◌, arith, add-one, append_assoc, length-append, inl, inr}
use Rattle.std.specs.Prelude.{slice_get}
use Rattle.std.specs.Option.{option_map}
use Rattle.std.specs.Str.{bytes_eq}
use Rattle.std.proofs.lemmas.Bool.{cases_Bool}
use Rattle.std.proofs.lemmas.Bool.Decides.{leb_tells, eqb_tells}
use Rattle.std.proofs.lemmas.List.{append-nil, map-append}
use Rattle.std.proofs.lemmas.Option.{slice_get-get_or, slice_get-map, same_Some}
use Rattle.std.proofs.lemmas.Slice.Eq.{bytes_eq-Decides}
use Rattle.ov_functor.specs.Windows.{Among}
use Rattle.ov_functor.specs.declared.command.Command.{Command}
use Rattle.ov_functor.specs.declared.command.Command.TheVariants as kinds
use Rattle.ov_session.specs.declared.after.After as waits
use Rattle.ov_session.specs.declared.planned.Planned.{Planned}
use Rattle.ov_session.specs.declared.plan.SessionPlan.{SessionPlan}
use Rattle.ov_session.specs.declared.roster.Roster.{Roster}
use Rattle.ov_script.specs.Sessions.{sessions_of, names_of, place_in, or_first, number_in, command_by, counted, commands_in, plan_by, waiting_by, names_by, waiting_from, planned_from, planned_of, waiting_of, plan_of, roster_of, command_at, order_by, order_from, order_of}
use Rattle.ov_script.proofs.Bounds.{passed}
use Rattle.ov_script.proofs.Adding.{is_none}
use Rattle.ov_script.specs.Faults.{is_declared, fault_of}
use Rattle.ov_script.specs.Script.{Content, Follow, IsScript}
use Rattle.ov_script.specs.Written.{command_line, Apart}
use Rattle.ov_script.specs.declared.line.ScriptLine.{ScriptLine}
use Rattle.ov_script.specs.declared.line.ScriptLine.TheVariants.{Session, Do, Snap, After}
use Rattle.ov_script.specs.declared.order.CommandAt.{CommandAt}
use Rattle.ov_script.proofs.Bounds.{script_bounded}
use Rattle.ov_script.proofs.Found.{bytes_same, bytes_turned, unplaced, placed, placed_front, apart_more}
use Rattle.ov_script.proofs.OneMore.{names_more, planned_count, follow_more}
use Rattle.ov_script.proofs.Saying.{ordered_by, command_line_by}
use Rattle.ov_history.specs.May.{Setting}
use Rattle.ov_follow.specs.Calm.{count, commands}
use Rattle.ov_complete.specs.Order as orders
use Rattle.ov_complete.specs.Order.{Comes, IsOrder}
use Rattle.ov_functor.proofs.Among.{among_front, among_back}

-- ---- tests that found no fault

-- and one that gave nothing where the other gives something
chosen : {A : Type 0} (b : Bool) (o : Option A) (x : A) → ◌≡◌ {A = Option A} (cond b o (Some x)) None → b ≡ true
chosen true o x e = refl
chosen false o x e = absurd cc

-- the same, of a test that is turned
not_passed : {A : Type 0} (b : Bool) (x : A) (o : Option A) → ◌≡◌ {A = Option A} (cond (not b) (Some x) o) None → (b ≡ true) × (o ≡ None)
not_passed true x o e = (refl, e)
not_passed false x o e = absurd cc

below : (a b : ℕ) → leb a b ≡ false → b < a
below a b e = elim (leb_tells a b) [ inl p ↦ let bad : true ≡ false = sym p.0 ∙ e in absurd cc | inr p ↦ p.1 ]

-- what is there
there : {A : Type 0} (o : Option A) → is_some o ≡ true → (x : A) × (o ≡ Some x)
there None e = absurd cc
there (Some x) e = (x, refl)

-- ---- lines before and behind

follow_front : (gateways : ℕ) (before lines more : List ScriptLine) → Follow gateways before (lines ++ more) → Follow gateways before lines
follow_front gateways before [] more follow = tt
follow_front gateways before (line ∷ lines) more follow = (follow.0, follow.1, follow_front gateways (before ++ line ∷ []) lines more follow.2)

-- a line of a script has no fault behind those before it
no_fault : (gateways : ℕ) (before lines : List ScriptLine) (line : ScriptLine) (more : List ScriptLine)
    → Follow gateways before (lines ++ line ∷ more) → fault_of gateways (before ++ lines) line ≡ None
no_fault gateways before [] line more follow = ap (λ (t : List ScriptLine). fault_of gateways t line) (append-nil before) ∙ follow.1
no_fault gateways before (first ∷ lines) line more follow =
    ap (λ (t : List ScriptLine). fault_of gateways t line) (sym (append_assoc before (first ∷ []) lines)) ∙ no_fault gateways (before ++ first ∷ []) lines line more follow.2

sessions_append : (lines more : List ScriptLine) → sessions_of (lines ++ more) ≡ sessions_of lines ++ sessions_of more
sessions_append [] more = refl
sessions_append (Session name gate ∷ lines) more = ap (λ (t : List (List ℕ × ℕ)). (name, gate) ∷ t) (sessions_append lines more)
sessions_append (Do session parts ∷ lines) more = sessions_append lines more
sessions_append (Snap session keys ∷ lines) more = sessions_append lines more
sessions_append (After session other seq ∷ lines) more = sessions_append lines more

names_append : (lines more : List ScriptLine) → names_of (lines ++ more) ≡ names_of lines ++ names_of more
names_append lines more =
    ap (map (λ (session : List ℕ × ℕ). session.0)) (sessions_append lines more)
    ∙ map-append (λ (session : List ℕ × ℕ). session.0) (sessions_of lines) (sessions_of more)

-- a session keeps its number with more lines behind
number_stays : (lines more : List ScriptLine) (name : List ℕ) (s : ℕ) → place_in name (names_of lines) ≡ Some s
    → place_in name (names_of (lines ++ more)) ≡ Some s
number_stays lines more name s found = ap (place_in name) (names_append lines more) ∙ placed_front name (names_of lines) (names_of more) s found

commands_append : (name : List ℕ) (lines more : List ScriptLine) → commands_in name (lines ++ more) ≡ commands_in name lines + commands_in name more
commands_append name [] more = omega arith
commands_append name (line ∷ lines) more = let rest = commands_append name lines more in omega (arith, rest)

-- the commands of a session on the first lines, and those on the others, each with what it waits for
planned_append : (names : List (List ℕ)) (name : List ℕ) (waiting : List waits.After) (lines more : List ScriptLine)
    → planned_from names name waiting (lines ++ more) ≡ planned_from names name waiting lines ++ planned_from (names ++ names_of lines) name (waiting_from names name waiting lines) more
planned_append names name waiting [] more = ap (λ (t : List (List ℕ)). planned_from t name waiting more) (sym (append-nil names))
planned_append names name waiting (first ∷ lines) more =
    ap (λ (t : List Planned). plan_by waiting (command_by name first) ++ t)
    (planned_append (names_by names first) name (waiting_by names name waiting first) lines more
    ∙ ap (λ (t : List (List ℕ)). planned_from (names_by names first) name (waiting_by names name waiting first) lines ++ planned_from t name (waiting_from names name waiting (first ∷ lines)) more)
    (append_assoc names (names_of (first ∷ [])) (names_of lines) ∙ ap (λ (t : List (List ℕ)). names ++ t) (sym (names_append (first ∷ []) lines))))
    ∙ sym (append_assoc (plan_by waiting (command_by name first)) (planned_from (names_by names first) name (waiting_by names name waiting first) lines) _)

-- ---- sessions and their plans

-- no name stands twice
apart_all : (gateways : ℕ) (before lines : List ScriptLine) → Follow gateways before lines → Apart (names_of before)
    → Apart (names_of (before ++ lines))
apart_all gateways before [] follow apart = subst (λ (t : List ScriptLine). Apart (names_of t)) (sym (append-nil before)) apart
apart_all gateways before (line ∷ lines) follow apart =
    subst (λ (t : List ScriptLine). Apart (names_of t)) (append_assoc before (line ∷ []) lines)
    (apart_all gateways (before ++ line ∷ []) lines follow.2 (subst Apart (sym (names_more before line)) (by line follow.1)))
  where
    by : (line : ScriptLine) → fault_of gateways before line ≡ None → Apart (names_by (names_of before) line)
    by (Session name gate) none = apart_more (names_of before) name apart (is_none (place_in name (names_of before)) (passed (is_declared name before) _ _ none).0)
    by (Do session parts) none = subst Apart (sym (append-nil (names_of before))) apart
    by (Snap session keys) none = subst Apart (sym (append-nil (names_of before))) apart
    by (After session other seq) none = subst Apart (sym (append-nil (names_of before))) apart

-- each session has a gateway of the topology
gates_all : (gateways : ℕ) (before lines : List ScriptLine) (s : ℕ) (session : List ℕ × ℕ) → Follow gateways before lines
    → slice_get (sessions_of lines) s ≡ Some session → session.1 < gateways
gates_all gateways before [] s session follow is = absurd cc
gates_all gateways before (Session name gate ∷ lines) zero session follow is =
    let free = passed (is_declared name before) _ _ follow.1 in
    let low = below gateways gate (passed (leb gateways gate) _ _ free.1).0 in
    subst (λ (x : List ℕ × ℕ). x.1 < gateways) (same_Some (name, gate) session is) low
gates_all gateways before (Session name gate ∷ lines) (suc s) session follow is = gates_all gateways (before ++ Session name gate ∷ []) lines s session follow.2 is
gates_all gateways before (Do name parts ∷ lines) s session follow is = gates_all gateways (before ++ Do name parts ∷ []) lines s session follow.2 is
gates_all gateways before (Snap name keys ∷ lines) s session follow is = gates_all gateways (before ++ Snap name keys ∷ []) lines s session follow.2 is
gates_all gateways before (After name other seq ∷ lines) s session follow is = gates_all gateways (before ++ After name other seq ∷ []) lines s session follow.2 is

-- where no name stands twice each stands at its first place
place_again : (names : List (List ℕ)) (s : ℕ) (name : List ℕ) → Apart names → slice_get names s ≡ Some name → place_in name names ≡ Some s
place_again [] s name apart is = absurd cc
place_again (first ∷ names) zero name apart is =
    let same : bytes_eq first name ≡ true = ap (bytes_eq first) (sym (same_Some first name is)) ∙ bytes_same first in
    rw same refl
place_again (first ∷ names) (suc s) name apart is =
    let rest = place_again names s name apart.1 is in
    elim (cases_Bool (bytes_eq first name)) [
      | inl h ↦
          let same : first ≡ name = (bytes_eq-Decides first name).0 h in
          let bad : ◌≡◌ {A = Option ℕ} None (Some s) = sym apart.0 ∙ ap (λ (n : List ℕ). place_in n names) same ∙ rest in
          absurd cc
      | inr h ↦ rw (h, rest) (ap (λ (k : ℕ). Some k) (add-one s))
    ]

-- the plan of a session that is found
plan_there : (lines : List ScriptLine) (name : List ℕ) (s : ℕ) → place_in name (names_of lines) ≡ Some s
    → (gate : ℕ) × (slice_get (roster_of lines).sessions s ≡ Some (plan_of lines (name, gate)))
plan_there lines name s found =
    let at = placed (λ (x : List ℕ × ℕ). x.0) (sessions_of lines) name s ([], 0) found in
    let pair : List ℕ × ℕ = get_or (sessions_of lines) s ([], 0) in (
      pair.1,
      slice_get-map (plan_of lines) (sessions_of lines) s
          ∙ ap (option_map (plan_of lines)) (slice_get-get_or (sessions_of lines) s ([], 0) at.0)
          ∙ ap (λ (n : List ℕ). Some (plan_of lines (n, pair.1))) at.1,
    )

-- the session of a plan
plan_session : (lines : List ScriptLine) (s : ℕ) (plan : SessionPlan) → slice_get (roster_of lines).sessions s ≡ Some plan
    → (session : List ℕ × ℕ) × (slice_get (sessions_of lines) s ≡ Some session) × (plan ≡ plan_of lines session)
plan_session lines s plan is = by (slice_get (sessions_of lines) s) (sym (slice_get-map (plan_of lines) (sessions_of lines) s) ∙ is)
  where
    by : (o : Option (List ℕ × ℕ)) → option_map (plan_of lines) o ≡ Some plan
        → (session : List ℕ × ℕ) × (o ≡ Some session) × (plan ≡ plan_of lines session)
    by None e = absurd cc
    by (Some session) e = (session, refl, sym (same_Some (plan_of lines session) plan e))

-- ---- the commands of a session

-- the line is a command of this session, which is declared before it
abbrev Commands : List ScriptLine → List ℕ → ScriptLine → Type 0
Commands before name line = (is_declared name before ≡ true) × (order_by before line ≡ command_at before name ∷ [])

-- a name that has the command of a line is the name on that line
commands_named : (before : List ScriptLine) (session name : List ℕ) (one command : Command) (b : Bool) → bytes_eq session name ≡ b
    → ◌≡◌ {A = Option Command} (cond b (Some one) None) (Some command)
    → is_declared session before ≡ true → (is_declared name before ≡ true) × (command_at before session ∷ [] ≡ command_at before name ∷ [])
commands_named before session name one command false h e declared = absurd cc
commands_named before session name one command true h e declared =
    let same : session ≡ name = (bytes_eq-Decides session name).0 h in
    (ap (λ (n : List ℕ). is_declared n before) (sym same) ∙ declared, ap (λ (n : List ℕ). command_at before n ∷ []) same)

-- a command of a session stands behind the line that declares it
commands_by : (gateways : ℕ) (before : List ScriptLine) (name : List ℕ) (line : ScriptLine) (command : Command)
    → fault_of gateways before line ≡ None → command_by name line ≡ Some command
    → Commands before name line
commands_by gateways before name (Session declared gate) command none is = absurd cc
commands_by gateways before name (Do session parts) command none is =
    commands_named before session name (kinds.Transact parts) command (bytes_eq session name) refl is (chosen (is_declared session before) _ _ none)
commands_by gateways before name (Snap session keys) command none is =
    commands_named before session name (kinds.Snap keys) command (bytes_eq session name) refl is (chosen (is_declared session before) _ _ none)
commands_by gateways before name (After session other seq) command none is = absurd cc

-- the number of a session that is declared before stays with the lines behind
same_number : (before more : List ScriptLine) (name : List ℕ) (s : ℕ) → is_declared name before ≡ true
    → place_in name (names_of (before ++ more)) ≡ Some s → place_in name (names_of before) ≡ Some s
same_number before more name s declared found =
    let here = there (place_in name (names_of before)) declared in
    let same : here.0 ≡ s = same_Some here.0 s (sym (number_stays before more name here.0 here.1) ∙ found) in
    here.1 ∙ ap (λ (k : ℕ). Some k) same

-- the command of the session is in the order of the lines behind, where it stands on one of them
abbrev Finds : List ScriptLine → List ScriptLine → List ℕ → ℕ → ℕ → Type 0
Finds before lines name s c = commands_in name before ≤ c → c < commands_in name before + commands_in name lines → Among (orders.command_at s (c + 1)) (order_from before lines)

found_from : (gateways : ℕ) (before lines : List ScriptLine) (name : List ℕ) (s c : ℕ) → Follow gateways before lines
    → place_in name (names_of (before ++ lines)) ≡ Some s
    → Finds before lines name s c
found_from gateways before [] name s c follow found low high = absurd (omega (arith, low, high))
found_from gateways before (line ∷ lines) name s c follow found low high =
    by (command_by name line) refl
    (found_from gateways (before ++ line ∷ []) lines name s c follow.2 (ap (λ (t : List ScriptLine). place_in name (names_of t)) (append_assoc before (line ∷ []) lines) ∙ found))
  where
    more : (k : ℕ) → counted (command_by name line) ≡ k → commands_in name before + k ≤ c → Finds (before ++ line ∷ []) lines name s c
        → Among (orders.command_at s (c + 1)) (order_from before (line ∷ lines))
    more k is later rest =
        let sum = commands_append name before (line ∷ []) in
        among_back (orders.command_at s (c + 1)) (order_by before line) (order_from (before ++ line ∷ []) lines)
        (rest (omega (arith, sum, is, later)) (omega (arith, sum, is, high)))

    by : (o : Option Command) → command_by name line ≡ o → Finds (before ++ line ∷ []) lines name s c
        → Among (orders.command_at s (c + 1)) (order_from before (line ∷ lines))
    by None is rest = more 0 (ap counted is) (omega (arith, low)) rest
    by (Some command) is rest =
        elim (eqb_tells c (commands_in name before)) [
          | inl same ↦
              let own = commands_by gateways before name line command follow.1 is in
              let number : number_in (names_of before) name ≡ s = ap or_first (same_number before (line ∷ lines) name s own.0 found) in
              let here : order_by before line ≡ orders.command_at s (c + 1) ∷ []
              = own.1 ∙ ap (λ (k : ℕ). orders.command_at k (commands_in name before + 1) ∷ []) number ∙ ap (λ (k : ℕ). orders.command_at s (k + 1) ∷ []) (sym same.1) in
              among_front (orders.command_at s (c + 1)) (order_by before line) (order_from (before ++ line ∷ []) lines)
              (subst (Among (orders.command_at s (c + 1))) (sym here) (inl refl))
          | inr other ↦ more 1 (ap counted is) (omega (arith, low, other.1)) rest
        ]

-- each command of a session is in the order
found_in : (gateways : ℕ) (lines : List ScriptLine) (name : List ℕ) (s c : ℕ) → Follow gateways [] lines
    → place_in name (names_of lines) ≡ Some s → c < commands_in name lines
    → Among (orders.command_at s (c + 1)) (order_of lines)
found_in gateways lines name s c follow found high = found_from gateways [] lines name s c follow found (omega arith) (omega (arith, high))

-- ---- what a command waits for

-- each of these commands is among the others, or has no number
abbrev AllAmong : List CommandAt → List waits.After → Type 0
AllAmong order waiting = (after : waits.After) → Among after waiting → (after.seq ≡ 0) ⊎ Among (orders.command_at after.session after.seq) order

all_more : (order more : List CommandAt) (waiting : List waits.After) → AllAmong order waiting → AllAmong (order ++ more) waiting
all_more order more waiting all after among = elim (all after among) [
  | inl none ↦ inl none
  | inr had ↦ inr (among_front (orders.command_at after.session after.seq) order more had)
]

-- what is among a list with one more
among_last : {X : Type 0} (x last : X) (xs : List X) → Among x (xs ++ last ∷ []) → Among x xs ⊎ (x ≡ last)
among_last x last [] (inl same) = inr same
among_last x last [] (inr among) = absurd among
among_last x last (first ∷ xs) (inl same) = inl (inl same)
among_last x last (first ∷ xs) (inr among) = elim (among_last x last xs among) [ inl had ↦ inl (inr had) | inr same ↦ inr same ]

-- a command that an `after` line names is on a line before it
after_among : (gateways : ℕ) (before : List ScriptLine) (session other : List ℕ) (seq : ℕ) → Follow gateways [] before
    → fault_of gateways before (After session other seq) ≡ None
    → (seq ≡ 0) ⊎ Among (orders.command_at (number_in (names_of before) other) seq) (order_of before)
after_among gateways before session other zero follow none = inl refl
after_among gateways before session other (suc c) follow none =
    let first = not_passed (is_declared session before) _ _ none in
    let second = not_passed (is_declared other before) _ _ first.1 in
    let third = below (suc (commands_in other before)) (suc c) (passed (leb (suc (commands_in other before)) (suc c)) _ _ second.1).0 in
    let found = there (place_in other (names_of before)) second.0 in
    let number : number_in (names_of before) other ≡ found.0 = ap or_first found.1 in
    inr (rw number (subst (λ (k : ℕ). Among (orders.command_at found.0 k) (order_of before)) (add-one c) (found_in gateways before other found.0 c follow found.1 (omega (arith, third)))))

-- what the next command of a session waits for stands on the lines before
waiting_among : (gateways : ℕ) (before lines : List ScriptLine) (name : List ℕ) (waiting : List waits.After) → Follow gateways [] before
    → Follow gateways before lines → AllAmong (order_of before) waiting
    → AllAmong (order_of (before ++ lines)) (waiting_from (names_of before) name waiting lines)
waiting_among gateways before [] name waiting old follow all = subst (λ (t : List ScriptLine). AllAmong (order_of t) waiting) (sym (append-nil before)) all
waiting_among gateways before (line ∷ lines) name waiting old follow all =
    subst (λ (t : List ScriptLine). AllAmong (order_of t) (waiting_from (names_of before) name waiting (line ∷ lines))) (append_assoc before (line ∷ []) lines)
    (subst (λ (names : List (List ℕ)). AllAmong (order_of ((before ++ line ∷ []) ++ lines)) (waiting_from names name (waiting_by (names_of before) name waiting line) lines)) (names_more before line)
    (waiting_among gateways (before ++ line ∷ []) lines name (waiting_by (names_of before) name waiting line) (follow_more gateways [] before line old follow.0 follow.1) follow.2
    (subst (λ (order : List CommandAt). AllAmong order (waiting_by (names_of before) name waiting line)) (sym (ordered_by before line))
    (all_more (order_of before) (order_by before line) (waiting_by (names_of before) name waiting line) (by line follow.1)))))
  where
    ends : (b : Bool) → AllAmong (order_of before) (cond b [] waiting)
    ends true after among = absurd among
    ends false after among = all after among

    longer : (b : Bool) (last : waits.After) → ((last.seq ≡ 0) ⊎ Among (orders.command_at last.session last.seq) (order_of before))
        → AllAmong (order_of before) (cond b (waiting ++ last ∷ []) waiting)
    longer true last is after among = elim (among_last after last waiting among) [
      | inl had ↦ all after had
      | inr same ↦ subst (λ (x : waits.After). (x.seq ≡ 0) ⊎ Among (orders.command_at x.session x.seq) (order_of before)) (sym same) is
    ]
    longer false last is after among = all after among

    by : (line : ScriptLine) → fault_of gateways before line ≡ None → AllAmong (order_of before) (waiting_by (names_of before) name waiting line)
    by (Session declared gate) none = all
    by (Do session parts) none = ends (bytes_eq session name)
    by (Snap session keys) none = ends (bytes_eq session name)
    by (After session other seq) none =
        longer (bytes_eq session name) (record { session = number_in (names_of before) other; seq = seq }) (after_among gateways before session other seq old none)

-- ---- the order

-- The line of a command: what stands before the command is the order of the lines before that one.
record StandsAt (before lines : List ScriptLine) (order : List CommandAt) (one : CommandAt) : Type 0 where
  first : List ScriptLine
  line : ScriptLine
  others : List ScriptLine
  split : lines ≡ first ++ line ∷ others
  earlier : order ≡ order_from before first
  own : order_by (before ++ first) line ≡ one ∷ []

-- a line more before it
stands_more : (before lines : List ScriptLine) (line : ScriptLine) (order : List CommandAt) (one : CommandAt)
    → StandsAt (before ++ line ∷ []) lines order one
    → StandsAt before (line ∷ lines) (order_by before line ++ order) one
stands_more before lines line order one at = record {
  first = line ∷ at.first;
  line = at.line;
  others = at.others;
  split = ap (λ (t : List ScriptLine). line ∷ t) at.split;
  earlier = ap (λ (t : List CommandAt). order_by before line ++ t) at.earlier;
  own = ap (λ (t : List ScriptLine). order_by t at.line) (sym (append_assoc before (line ∷ []) at.first)) ∙ at.own;
}

-- a line has one command or none
lone : (before : List ScriptLine) (line : ScriptLine) → (order_by before line ≡ []) ⊎ ((one : CommandAt) × (order_by before line ≡ one ∷ []))
lone before (Session name gate) = inl refl
lone before (Do session parts) = inr (command_at before session, refl)
lone before (Snap session keys) = inr (command_at before session, refl)
lone before (After session other seq) = inl refl

-- each command of the order stands on a line
stands : (before lines : List ScriptLine) (order rest : List CommandAt) (one : CommandAt) → order_from before lines ≡ order ++ one ∷ rest
    → StandsAt before lines order one
stands before [] [] rest one e = absurd cc
stands before [] (other ∷ order) rest one e = absurd cc
stands before (line ∷ lines) order rest one e = by (lone before line) order e (λ older. stands (before ++ line ∷ []) lines older rest one)
  where
    by : (order_by before line ≡ []) ⊎ ((x : CommandAt) × (order_by before line ≡ x ∷ [])) → (order : List CommandAt)
        → order_by before line ++ order_from (before ++ line ∷ []) lines ≡ order ++ one ∷ rest
        → ((older : List CommandAt) → order_from (before ++ line ∷ []) lines ≡ older ++ one ∷ rest → StandsAt (before ++ line ∷ []) lines older one)
        → StandsAt before (line ∷ lines) order one
    by (inl none) order e more =
        subst (λ (t : List CommandAt). StandsAt before (line ∷ lines) (t ++ order) one) none
        (stands_more before lines line order one (more order (ap (λ (t : List CommandAt). t ++ order_from (before ++ line ∷ []) lines) (sym none) ∙ e)))
    by (inr x) [] e more =
        let all : x.0 ∷ order_from (before ++ line ∷ []) lines ≡ one ∷ rest = ap (λ (t : List CommandAt). t ++ order_from (before ++ line ∷ []) lines) (sym x.1) ∙ e in
        let same : x.0 ≡ one = cc in
        record {
          first = [];
          line = line;
          others = lines;
          split = refl;
          earlier = refl;
          own = ap (λ (t : List ScriptLine). order_by t line) (append-nil before) ∙ x.1 ∙ ap (λ (y : CommandAt). y ∷ []) same;
        }
    by (inr x) (y ∷ order) e more =
        let all : x.0 ∷ order_from (before ++ line ∷ []) lines ≡ y ∷ (order ++ one ∷ rest) = ap (λ (t : List CommandAt). t ++ order_from (before ++ line ∷ []) lines) (sym x.1) ∙ e in
        let same : x.0 ≡ y = cc in
        let tail : order_from (before ++ line ∷ []) lines ≡ order ++ one ∷ rest = cc in
        subst (λ (t : List CommandAt). StandsAt before (line ∷ lines) t one) (ap (λ (t : List CommandAt). t ++ order) x.1 ∙ ap (λ (z : CommandAt). z ∷ order) same)
        (stands_more before lines line order one (more order tail))

-- what stands behind the first ones
get_middle : {X : Type 0} (xs : List X) (x : X) (ys : List X) → slice_get (xs ++ x ∷ ys) (length xs) ≡ Some x
get_middle [] x ys = refl
get_middle (first ∷ xs) x ys = get_middle xs x ys

-- the command of a line has its place in the plan
planned_here : (first others : List ScriptLine) (session : List ℕ) (command : Command)
    → slice_get (planned_of (first ++ command_line session command ∷ others) session) (commands_in session first) ≡ Some (record { command = command; after = waiting_of first session })
planned_here first others session command =
    let line = command_line session command in
    let one : command_by session line ≡ Some command = command_line_by session session command ∙ rw (bytes_same session) refl in
    let rest = planned_from (names_by (names_of first) line) session (waiting_by (names_of first) session (waiting_of first session) line) others in
    let all : planned_of (first ++ line ∷ others) session ≡ planned_of first session ++ record { command = command; after = waiting_of first session } ∷ rest
    = planned_append [] session [] first (line ∷ others) ∙ ap (λ (o : Option Command). planned_of first session ++ (plan_by (waiting_of first session) o ++ rest)) one in
    ap (λ (k : ℕ). slice_get (planned_of (first ++ line ∷ others) session) k) (sym (planned_count [] session [] first))
    ∙ ap (λ (t : List Planned). slice_get t (length (planned_of first session))) all
    ∙ get_middle (planned_of first session) (record { command = command; after = waiting_of first session }) rest

-- the command of a line comes up behind those of the lines before it
comes_at : (gateways : ℕ) (first others : List ScriptLine) (session : List ℕ) (command : Command)
    → Follow gateways [] (first ++ command_line session command ∷ others) → is_declared session first ≡ true
    → Comes (roster_of (first ++ command_line session command ∷ others)) (order_of first) (command_at first session)
comes_at gateways first others session command follow declared =
    let whole = first ++ command_line session command ∷ others in
    let front = follow_front gateways [] first (command_line session command ∷ others) follow in
    let found = there (place_in session (names_of first)) declared in
    let number : number_in (names_of first) session ≡ found.0 = ap or_first found.1 in
    let plan = plan_there whole session found.0 (number_stays first (command_line session command ∷ others) session found.0 found.1) in
    record {
      plan = plan_of whole (session, plan.0);
      session = rw number plan.1;
      place = commands_in session first;
      number = refl;
      planned = record { command = command; after = waiting_of first session };
      there = planned_here first others session command;
      earlier = λ c less. rw number (found_in gateways first session found.0 c front found.1 less);
      waited = waiting_among gateways [] first session [] tt front (λ after among. absurd among);
    }

comes_by : (gateways : ℕ) (first others : List ScriptLine) (line : ScriptLine) (one : CommandAt) → Follow gateways [] (first ++ line ∷ others)
    → order_by first line ≡ one ∷ []
    → Comes (roster_of (first ++ line ∷ others)) (order_of first) one
comes_by gateways first others (Session name gate) one follow own = absurd cc
comes_by gateways first others (Do session parts) one follow own =
    let same : command_at first session ≡ one = cc in
    let declared = chosen (is_declared session first) _ _ (no_fault gateways [] first (Do session parts) others follow) in
    subst (Comes (roster_of (first ++ Do session parts ∷ others)) (order_of first)) same (comes_at gateways first others session (kinds.Transact parts) follow declared)
comes_by gateways first others (Snap session keys) one follow own =
    let same : command_at first session ≡ one = cc in
    let declared = chosen (is_declared session first) _ _ (no_fault gateways [] first (Snap session keys) others follow) in
    subst (Comes (roster_of (first ++ Snap session keys ∷ others)) (order_of first)) same (comes_at gateways first others session (kinds.Snap keys) follow declared)
comes_by gateways first others (After session other seq) one follow own = absurd cc

-- The order of the commands of a script is one in which they come up for their replies.
pub script_order : (script : Content) → IsScript script → IsOrder (roster_of script.lines) (order_of script.lines)
script_order script is = record {
  comes = λ before rest one e.
      let at = stands [] script.lines before rest one e in
      let follow = subst (Follow script.gateways []) at.split is in
      subst (λ (lines : List ScriptLine). Comes (roster_of lines) before one) (sym at.split)
      (subst (λ (order : List CommandAt). Comes (roster_of (at.first ++ at.line ∷ at.others)) order one) (sym at.earlier)
      (comes_by script.gateways at.first at.others at.line one follow at.own));
  all = λ s c plan here less.
      let of = plan_session script.lines s plan here in
      let named : slice_get (names_of script.lines) s ≡ Some (of.0).0
      = slice_get-map (λ (session : List ℕ × ℕ). session.0) (sessions_of script.lines) s ∙ ap (option_map (λ (session : List ℕ × ℕ). session.0)) of.1 in
      let found = place_again (names_of script.lines) s (of.0).0 (apart_all script.gateways [] script.lines is tt) named in
      let long : length plan.planned ≡ commands_in (of.0).0 script.lines = ap (λ (p : SessionPlan). length p.planned) of.2 ∙ planned_count [] (of.0).0 [] script.lines in
      found_in script.gateways script.lines (of.0).0 s c is found (omega (arith, less, long));
}

-- ---- how many commands

-- how many of these sessions have the command of a line
abbrev counted_by : List (List ℕ) → ScriptLine → ℕ
counted_by [] line = 0
counted_by (name ∷ names) line = counted (command_by name line) + counted_by names line

-- how many commands these sessions have
abbrev commands_by_name : List (List ℕ) → List ScriptLine → ℕ
commands_by_name [] lines = 0
commands_by_name (name ∷ names) lines = commands_in name lines + commands_by_name names lines

commands_none : (names : List (List ℕ)) → commands_by_name names [] ≡ 0
commands_none [] = refl
commands_none (name ∷ names) = let rest = commands_none names in omega (arith, rest)

commands_first : (names : List (List ℕ)) (line : ScriptLine) (lines : List ScriptLine)
    → commands_by_name names (line ∷ lines) ≡ counted_by names line + commands_by_name names lines
commands_first [] line lines = refl
commands_first (name ∷ names) line lines = let rest = commands_first names line lines in omega (arith, rest)

counted_none : (names : List (List ℕ)) (line : ScriptLine) → ((name : List ℕ) → command_by name line ≡ None) → counted_by names line ≡ 0
counted_none [] line none = refl
counted_none (name ∷ names) line none = let rest = counted_none names line none in rw (none name) (omega (arith, rest))

-- a session that is not among these
counted_apart : (names : List (List ℕ)) (session : List ℕ) (command : Command) → place_in session names ≡ None
    → counted_by names (command_line session command) ≡ 0
counted_apart [] session command none = refl
counted_apart (name ∷ names) session command none =
    let apart = unplaced session name names none in
    let rest = counted_apart names session command apart.1 in
    rw (command_line_by name session command, bytes_turned session name ∙ apart.0) (omega (arith, rest))

-- where no name stands twice a line counts once
counted_once : (names : List (List ℕ)) (session : List ℕ) (command : Command) → Apart names → counted_by names (command_line session command) ≤ 1
counted_once [] session command apart = omega arith
counted_once (name ∷ names) session command apart =
    elim (cases_Bool (bytes_eq session name)) [
      | inl h ↦
          let same : session ≡ name = (bytes_eq-Decides session name).0 h in
          let rest = counted_apart names session command (ap (λ (n : List ℕ). place_in n names) same ∙ apart.0) in
          rw (command_line_by name session command, h) (omega (arith, rest))
      | inr h ↦
          let rest = counted_once names session command apart.1 in
          rw (command_line_by name session command, h) (omega (arith, rest))
    ]

counted_within : (before : List ScriptLine) (names : List (List ℕ)) (line : ScriptLine) → Apart names
    → counted_by names line ≤ length (order_by before line)
counted_within before names (Session name gate) apart = let none = counted_none names (Session name gate) (λ n. refl) in omega (arith, none)
counted_within before names (Do session parts) apart = counted_once names session (kinds.Transact parts) apart
counted_within before names (Snap session keys) apart = counted_once names session (kinds.Snap keys) apart
counted_within before names (After session other seq) apart = let none = counted_none names (After session other seq) (λ n. refl) in omega (arith, none)

-- sessions of different names have no more commands than there are in the order
commands_within : (before : List ScriptLine) (names : List (List ℕ)) (lines : List ScriptLine) → Apart names
    → commands_by_name names lines ≤ length (order_from before lines)
commands_within before names [] apart = let none = commands_none names in omega (arith, none)
commands_within before names (line ∷ lines) apart =
    let here = counted_within before names line apart in
    let rest = commands_within (before ++ line ∷ []) names lines apart in
    let first = commands_first names line lines in
    let both = length-append (order_by before line) (order_from (before ++ line ∷ []) lines) in
    omega (arith, here, rest, first, both)

count_named : (lines : List ScriptLine) (sessions : List (List ℕ × ℕ))
    → count (map (plan_of lines) sessions) ≡ commands_by_name (map (λ (session : List ℕ × ℕ). session.0) sessions) lines
count_named lines [] = refl
count_named lines (session ∷ sessions) =
    let here = planned_count [] session.0 [] lines in
    let rest = count_named lines sessions in
    omega (arith, here, rest)

-- The sessions of a script have at most 4,000 commands together.
pub script_commands : (script : Content) (t : Setting) → IsScript script → t.roster ≡ roster_of script.lines → commands t ≤ 4000
script_commands script t is same =
    let named : commands t ≡ commands_by_name (names_of script.lines) script.lines = ap (λ (roster : Roster). count roster.sessions) same ∙ count_named script.lines (sessions_of script.lines) in
    let within = commands_within [] (names_of script.lines) script.lines (apart_all script.gateways [] script.lines is tt) in
    let most = (script_bounded script is).commands in
    omega (arith, named, within, most)

-- Each session of a script has a gateway of the topology.
pub script_own : (script : Content) → IsScript script → (s : ℕ) (plan : SessionPlan) → slice_get (roster_of script.lines).sessions s ≡ Some plan
    → plan.gate < script.gateways
script_own script is s plan here =
    let of = plan_session script.lines s plan here in
    subst (λ (p : SessionPlan). p.gate < script.gateways) (sym of.2) (gates_all script.gateways [] script.lines s of.0 is of.1)
