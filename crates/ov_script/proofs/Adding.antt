-- What the functions that add a line return and leave, from what they call.
use Rattle.std.proofs.Common.{◌≡◌, ℕ, ◌+◌, ◌<◌, Bool, true, false, cond, leb, List, [], ◌∷◌, ◌++◌, length, get_or, set, Option, Some, None, is_some, Result, Ok, refl, sym, ap, subst, ◌∙◌, arith, inl, inr}
use Rattle.std.proofs.lemmas.Bool.Decides.{leb_tells}
use Rattle.std.proofs.lemmas.List.{get_or_default}
use Rattle.ov_functor.specs.declared.command.Command.{Command}
use Rattle.ov_functor.specs.declared.command.Command.TheVariants as commands
use Rattle.ov_functor.specs.declared.error.TxnError.{TxnError}
use Rattle.ov_functor.specs.declared.part.Part.{Part}
use Rattle.ov_functor.specs.Transaction.{transaction_error, made_by}
use Rattle.ov_session.specs.declared.after.After as waits
use Rattle.ov_session.specs.declared.planned.Planned.{Planned}
use Rattle.ov_session.specs.declared.plan.SessionPlan.{SessionPlan}
use Rattle.ov_session.specs.declared.roster.Roster.{Roster}
use Rattle.ov_session.specs.Standing.{most_commands, most_sessions}
use Rattle.ov_script.specs.Line.{IsLine}
use Rattle.ov_script.specs.Sessions.{names_of, place_in, commands_in, order_of}
use Rattle.ov_script.specs.Faults.{is_declared, session_fault, commands_fault, keys_fault, fault_of}
use Rattle.ov_script.specs.Script.{Content}
use Rattle.ov_script.specs.Written.{plan_at, lines_at, line_in, name_in, IsDeclared, with_line, MayStand, with_session, with_command, IsKept}
use Rattle.ov_script.specs.declared.fault.ScriptFault.{ScriptFault}
use Rattle.ov_script.specs.declared.line.ScriptLine.{ScriptLine}
use Rattle.ov_script.specs.declared.line.ScriptLine.TheVariants.{Session, Do, Snap, After}
use Rattle.ov_script.specs.declared.order.CommandAt.{CommandAt}
use Rattle.ov_script.specs.declared.written.Written.{Written}
use Rattle.ov_script.specs.declared.written.Written.TheVariants as kept
use Rattle.ov_script.proofs.Found.{placed_name}
use Rattle.ov_script.proofs.OneMore.{planned_count, counted_in_order}
use Rattle.ov_script.proofs.Saying.{plan_found, waiting_found}
use Rattle.ov_script.proofs.Keeping.{kept_session, kept_command, kept_after}

-- ---- sessions by number

-- the session that is found has the name
pub named_at : (lines : List ScriptLine) (name : List ℕ) (s : ℕ) → Some s ≡ place_in name (names_of lines) → name_in lines s ≡ name
named_at lines name s e = placed_name name (names_of lines) s (sym e)

-- and is declared
pub declared_at : (lines : List ScriptLine) (name : List ℕ) (s : ℕ) → Some s ≡ place_in name (names_of lines) → IsDeclared lines s
declared_at lines name s e = ap (λ (n : List ℕ). place_in n (names_of lines)) (named_at lines name s e) ∙ sym e

is_declared_at : (lines : List ScriptLine) (name : List ℕ) (s : ℕ) → Some s ≡ place_in name (names_of lines) → is_declared name lines ≡ true
is_declared_at lines name s e = ap is_some (sym e)

-- three tests of which none found a fault
three_pass : (a b c : Bool) (x y z : ScriptFault) → ◌≡◌ {A = Option ScriptFault} (cond a (Some x) (cond b (Some y) (cond c (Some z) None))) None → (a ≡ false) × (b ≡ false) × (c ≡ false)
three_pass true b c x y z e = absurd cc
three_pass false true c x y z e = absurd cc
three_pass false false true x y z e = absurd cc
three_pass false false false x y z e = (refl, refl, refl)

-- what is not there is nothing
pub is_none : {A : Type 0} (o : Option A) → is_some o ≡ false → o ≡ None
is_none None e = refl
is_none (Some x) e = absurd cc

below : (a b : ℕ) → leb a b ≡ false → b < a
below a b e = elim (leb_tells a b) [ inl p ↦ let bad : true ≡ false = sym p.0 ∙ e in absurd cc | inr p ↦ p.1 ]

-- ---- what is taken in

abbrev view : ℕ → Roster → List Written → Content
view gateways roster written = record { gateways = gateways; lines = lines_at roster written }

module _ (gateways : ℕ) (names : List (List ℕ)) (roster : Roster) (waiting : List (List waits.After)) (order : List CommandAt) (written : List Written) (h : IsKept gateways names roster waiting order written) where
  here : (name : List ℕ) (s : ℕ) → place_in name (names_of (lines_at roster written)) ≡ Some s → place_in name names ≡ Some s
  here name s e = ap (place_in name) h.says.named ∙ e

  session_free : (name : List ℕ) (gate : ℕ) → session_fault gateways (lines_at roster written) name gate ≡ None → (place_in name names ≡ None) × (length names < most_sessions)
  session_free name gate none =
      let pass = three_pass (is_declared name (lines_at roster written)) (leb gateways gate) (leb most_sessions (length (names_of (lines_at roster written)))) _ _ _ none in (
        ap (place_in name) h.says.named ∙ is_none (place_in name (names_of (lines_at roster written))) pass.0,
        rw h.says.named (below most_sessions (length (names_of (lines_at roster written))) pass.2),
      )

  -- what is kept with a session more
  pub session_inserted : (v : Content) (name : List ℕ) (gate s : ℕ) (names' : List (List ℕ)) (roster' : Roster) (waiting' : List (List waits.After)) (written' : List Written)
      → view gateways roster written ≡ v → MayStand v (Session name gate) → s ≡ length roster.sessions
      → names' ≡ names ++ name ∷ [] → roster' ≡ with_session roster (record { name = name; gate = gate; planned = [] }) → waiting' ≡ waiting ++ [] ∷ [] → written' ≡ written ++ kept.Session s ∷ []
      → IsKept gateways names' roster' waiting' order written' × (view gateways roster' written' ≡ with_line v (Session name gate))
  session_inserted v name gate s names' roster' waiting' written' is stands s_is names_is roster_is waiting_is written_is =
      subst (λ (u : Content). MayStand u (Session name gate)
      → IsKept gateways names' roster' waiting' order written' × (view gateways roster' written' ≡ with_line u (Session name gate))) is
      (λ m.
      let free = session_free name gate m.1 in
      let k = kept_session gateways names roster waiting order written h name gate m.0 free.0 free.1 m.1 in
      rw (written_is, s_is, names_is, roster_is, waiting_is) (k.0, ap (λ (t : List ScriptLine). record { gateways = gateways; lines = t }) k.1))
      stands

  -- what is kept with a command more
  pub command_inserted : (v : Content) (at seq : ℕ) (command : Command) (roster' : Roster) (waiting' : List (List waits.After)) (order' : List CommandAt) (written' : List Written)
      → view gateways roster written ≡ v → IsDeclared v.lines at → MayStand v (line_in v.lines at command) → length (order_of v.lines) < most_commands
      → seq ≡ length (plan_at roster at).planned + 1
      → roster' ≡ with_command roster at (record { command = command; after = get_or waiting at [] }) → waiting' ≡ set waiting at [] → order' ≡ order ++ record { session = at; seq = seq } ∷ [] → written' ≡ written ++ kept.Command at seq ∷ []
      → IsKept gateways names roster' waiting' order' written' × (view gateways roster' written' ≡ with_line v (line_in v.lines at command))
  command_inserted v at seq command roster' waiting' order' written' is declared stands short seq_is roster_is waiting_is order_is written_is =
      subst (λ (u : Content). IsDeclared u.lines at → MayStand u (line_in u.lines at command) → length (order_of u.lines) < most_commands
      → IsKept gateways names roster' waiting' order' written' × (view gateways roster' written' ≡ with_line u (line_in u.lines at command))) is
      (λ d m few.
      let k = kept_command gateways names roster waiting order written h (name_in (lines_at roster written) at) at command m.0 (here _ at d) (rw h.says.ordered few) m.1 in
      rw (written_is, order_is, seq_is, roster_is, waiting_is) (k.0, ap (λ (t : List ScriptLine). record { gateways = gateways; lines = t }) k.1))
      declared stands short

  -- what is kept with a wait more
  pub after_inserted : (v : Content) (at other seq : ℕ) (waiting' : List (List waits.After)) (written' : List Written)
      → view gateways roster written ≡ v → IsDeclared v.lines at → IsDeclared v.lines other → MayStand v (After (name_in v.lines at) (name_in v.lines other) seq)
      → waiting' ≡ set waiting at (get_or waiting at [] ++ record { session = other; seq = seq } ∷ []) → written' ≡ written ++ kept.After at other seq ∷ []
      → IsKept gateways names roster waiting' order written' × (view gateways roster written' ≡ with_line v (After (name_in v.lines at) (name_in v.lines other) seq))
  after_inserted v at other seq waiting' written' is declared there stands waiting_is written_is =
      subst (λ (u : Content). IsDeclared u.lines at → IsDeclared u.lines other → MayStand u (After (name_in u.lines at) (name_in u.lines other) seq)
      → IsKept gateways names roster waiting' order written' × (view gateways roster written' ≡ with_line u (After (name_in u.lines at) (name_in u.lines other) seq))) is
      (λ d e m.
      let k = kept_after gateways names roster waiting order written h (name_in (lines_at roster written) at) (name_in (lines_at roster written) other) at other seq m.0 (here _ at d) (here _ other e) m.1 in
      rw (written_is, waiting_is) (k.0, ap (λ (t : List ScriptLine). record { gateways = gateways; lines = t }) k.1))
      declared there stands

  -- ---- what is found

  -- a session that is declared has its plan and its waits
  pub session_there : (v : Content) (at : ℕ) → view gateways roster written ≡ v → IsDeclared v.lines at
      → (at < length roster.sessions) × (at < length waiting) × (length (plan_at roster at).planned ≡ commands_in (name_in v.lines at) v.lines)
  session_there v at is declared =
      subst (λ (u : Content). IsDeclared u.lines at → (at < length roster.sessions) × (at < length waiting) × (length (plan_at roster at).planned ≡ commands_in (name_in u.lines at) u.lines)) is
      (λ d.
      let name = name_in (lines_at roster written) at in
      let plan = plan_found (lines_at roster written) names roster waiting order name at h.says (here name at d) in
      let after = waiting_found (lines_at roster written) names roster waiting order name at h.says (here name at d) in
      (plan.1, after.0, ap (λ (p : SessionPlan). length p.planned) plan.2 ∙ planned_count [] name [] (lines_at roster written)))
      declared

-- ---- commands

-- a transaction that was made is of these parts, and they have no fault
made_ok : (o : Option TxnError) (parts t : List Part) → ◌≡◌ {A = Result (List Part) TxnError} (Ok t) (made_by o parts) → (o ≡ None) × (t ≡ parts)
made_ok None parts t e = (refl, cc)
made_ok (Some error) parts t e = absurd cc

-- What stands where a command of a session may be added.
pub record IsReady (v : Content) (at : ℕ) (command : Command) (line : ScriptLine) : Type 0 where
  pub declared : IsDeclared v.lines at
  pub is : line_in v.lines at command ≡ line
  pub form : IsLine (line_in v.lines at command)
  pub full : fault_of v.gateways v.lines (line_in v.lines at command) ≡ commands_fault v.lines

ready : (v : Content) (at : ℕ) (command : Command) (line : ScriptLine) → IsDeclared v.lines at → line_in v.lines at command ≡ line → IsLine line → fault_of v.gateways v.lines line ≡ commands_fault v.lines
    → IsReady v at command line
ready v at command line declared is form full = record {
  declared = declared;
  is = is;
  form = subst IsLine (sym is) form;
  full = ap (fault_of v.gateways v.lines) is ∙ full;
}

-- a transaction of a session that is there
pub do_ready : (v : Content) (session : List ℕ) (parts items t : List Part) (at : ℕ) → Some at ≡ place_in session (names_of v.lines) → items ≡ parts
    → Ok t ≡ made_by (transaction_error items) items → IsLine (Do session parts) → IsReady v at (commands.Transact t) (Do session parts)
do_ready v session parts items t at found items_is made form =
    let e = made_ok (transaction_error items) items t made in
    let same : t ≡ parts = e.1 ∙ items_is in
    let none : transaction_error parts ≡ None = ap transaction_error (sym items_is) ∙ e.0 in
    ready v at (commands.Transact t) (Do session parts) (declared_at v.lines session at found)
    (ap (λ (n : List ℕ). Do n t) (named_at v.lines session at found) ∙ ap (Do session) same) form
    (rw (is_declared_at v.lines session at found, none) refl)

-- a snapshot of a session that is there
pub snap_ready : (v : Content) (session : List ℕ) (keys given : List (List ℕ)) (at : ℕ) → Some at ≡ place_in session (names_of v.lines) → given ≡ keys
    → ((lines : List ScriptLine) → keys_fault lines given ≡ commands_fault lines) → IsLine (Snap session keys) → IsReady v at (commands.Snap keys) (Snap session keys)
snap_ready v session keys given at found is free form =
    ready v at (commands.Snap keys) (Snap session keys) (declared_at v.lines session at found) (ap (λ (n : List ℕ). Snap n keys) (named_at v.lines session at found)) form
    (rw (is_declared_at v.lines session at found) (ap (keys_fault v.lines) (sym is) ∙ free v.lines))

-- an `after` line of two sessions that are there
pub wait_line : (lines : List ScriptLine) (session other : List ℕ) (at waited seq : ℕ) → Some at ≡ place_in session (names_of lines) → Some waited ≡ place_in other (names_of lines)
    → After (name_in lines at) (name_in lines waited) seq ≡ After session other seq
wait_line lines session other at waited seq found there =
    ap (λ (n : List ℕ). After n (name_in lines waited) seq) (named_at lines session at found) ∙ ap (λ (n : List ℕ). After session n seq) (named_at lines other waited there)

-- the plan of a session, at any default
pub plan_read : (roster : Roster) (sessions : List SessionPlan) (s n : ℕ) (d : SessionPlan) → s < length roster.sessions → sessions ≡ roster.sessions → length (plan_at roster s).planned ≡ n
    → length (get_or sessions s d).planned ≡ n
plan_read roster sessions s n d there is count =
    ap (λ (xs : List SessionPlan). length (get_or xs s d).planned) is
    ∙ ap (λ (p : SessionPlan). length p.planned) (get_or_default roster.sessions s d (record { name = []; gate = 0; planned = [] }) there)
    ∙ count

-- what stands behind a list that is another
pub pushed : {X : Type 0} (new between old : List X) (x : X) → new ≡ between ++ x ∷ [] → between ≡ old → new ≡ old ++ x ∷ []
pushed {X} new between old x e f = e ∙ ap (λ (t : List X). t ++ x ∷ []) f

-- the roster and the waits, with a session more
pub roster_pushed : (roster : Roster) (sessions : List SessionPlan) (name : List ℕ) (gate : ℕ) (planned : List Planned)
    → sessions ≡ roster.sessions ++ record { name = name; gate = gate; planned = planned } ∷ [] → planned ≡ []
    → ◌≡◌ {A = Roster} (record { sessions = sessions }) (with_session roster (record { name = name; gate = gate; planned = [] }))
roster_pushed roster sessions name gate planned e f =
    ap (λ (xs : List SessionPlan). record { sessions = xs }) (e ∙ ap (λ (p : List Planned). roster.sessions ++ record { name = name; gate = gate; planned = p } ∷ []) f)

pub waiting_pushed : (new between old : List (List waits.After)) (none : List waits.After) → new ≡ between ++ none ∷ [] → between ≡ old → none ≡ [] → new ≡ old ++ [] ∷ []
waiting_pushed new between old none e f g = pushed new between old none e f ∙ ap (λ (t : List waits.After). old ++ t ∷ []) g

-- ---- room for a command

module _ (gateways : ℕ) (names : List (List ℕ)) (roster : Roster) (waiting : List (List waits.After)) (order : List CommandAt) (written : List Written) (h : IsKept gateways names roster waiting order written) where
  pub session_ready : (v : Content) (at : ℕ) → view gateways roster written ≡ v → IsDeclared v.lines at → length (order_of v.lines) < most_commands
      → (at < length roster.sessions) × (at < length waiting) × (length (plan_at roster at).planned < most_commands)
  session_ready v at is declared short =
      let there = session_there gateways names roster waiting order written h v at is declared in
      (there.0, there.1, omega (arith, there.2, short, counted_in_order (name_in v.lines at) v.lines))
