-- A command that begins.
use Rattle.std.proofs.Common.{◌≡◌, ◌≢◌, ℕ, ◌+◌, ◌-◌, ◌<◌, ◌≤◌, ◌^◌, max, true, false, ◌==◌, Option, Some, None, List, [], ◌∷◌, ◌++◌, length, get_or, refl, sym, ap, subst, ◌∙◌, arith, inl, inr, ◌⊎◌, append-nil}
use Rattle.std.specs.Prelude.{if◌then◌else◌, slice_get, slice_set}
use Rattle.std.proofs.lemmas.Bool.{eq-eqb, le-ltb, lt-ltb, false_from_ne_true}
use Rattle.std.proofs.lemmas.Bool.Decides.{eqb_tells}
use Rattle.std.proofs.lemmas.List.{get_or-set_same, get_or-set_other}
use Rattle.std.proofs.lemmas.Option.{slice_get_within}
use Rattle.std.proofs.Math.ListN.{set, length-set}
use Rattle.ov_base.specs.Lemmas.{time_back}
use Rattle.ov_base.specs.Version.{number, time_of}
use Rattle.ov_functor.specs.declared.command.Command.{Command}
use Rattle.ov_functor.specs.declared.command.Command.TheVariants as commands
use Rattle.ov_functor.specs.declared.part.Part.{Part}
use Rattle.ov_gossip.specs.Marks.{mark_at}
use Rattle.ov_topology.specs.declared.actor.Actor.{Actor}
use Rattle.ov_session.specs.Events.{Event, begun, replied, floor}
use Rattle.ov_session.specs.Events as events
use Rattle.ov_session.specs.Standing.{State, StandsFor, MayBegin}
use Rattle.ov_session.specs.declared.planned.Planned.{Planned}
use Rattle.ov_session.specs.declared.roster.Roster.{Roster}
use Rattle.ov_event.specs.declared.kind.Kind.TheVariants.{Began}
use Rattle.ov_event.specs.declared.start.Start.{Start}
use Rattle.ov_event.specs.declared.start.Start.TheVariants.{Draw, Look}
use Rattle.ov_history.specs.Past.{History}
use Rattle.ov_history.specs.Draws.{last}
use Rattle.ov_history.specs.Placement.{acked}
use Rattle.ov_history.specs.Sessions.{events_of}
use Rattle.ov_history.specs.Gives.{Begin, time_at, ready, start_of, gives, is_own}
use Rattle.ov_history.specs.May.{Setting}
use Rattle.ov_history.specs.Cores.{kept, Steps}
use Rattle.ov_history.proofs.Given.{ready_may}
use Rattle.ov_history.proofs.Giving.{may_ready}
use Rattle.ov_gate.specs.Calls.{command_at}
use Rattle.ov_gate.specs.Gate.{GateState, draws, IsGate, is_begun}
use Rattle.ov_gate.specs.Tracked.{IsNew}
use Rattle.ov_gate.specs.declared.tracked.Tracked.{Tracked}
use Rattle.ov_gate.proofs.Kept.{all_on, all_pushed, all_early, rises_pushed}
use Rattle.ov_gate.proofs.Changes.{by_gate, tracks_begun, tracks_new}
use Rattle.ov_gate.proofs.Stands.{nothing_more, last_more, some_steps, none_steps}

-- ---- what is given

-- a command that is ready is given with its start
begin_given : (t : Setting) (h : History) (actor : Actor) (gate : GateState) (s c clock : ℕ) (planned : Planned) (start : Start) → IsGate t h actor gate → gate.stopped ≡ false
    → ready t h gate.gate s ≡ Some planned → start_of h gate.gate s clock planned.command ≡ Some start → c ≡ begun s (events_of gate.gate h) + 1
    → kept is_begun (gives t h actor (Begin s clock)) ≡ Some (by_gate gate.gate (Began s c start))
begin_given t h actor gate s c clock planned start is running next starts seq = rw (is.runs.known, sym is.runs.stopped_is, running, is.actor_is, next, starts, seq) refl

-- none is given where the command that is ready has no start
start_none : (t : Setting) (h : History) (actor : Actor) (gate : GateState) (s clock : ℕ) (planned : Planned) → IsGate t h actor gate → gate.stopped ≡ false
    → ready t h gate.gate s ≡ Some planned → start_of h gate.gate s clock planned.command ≡ None → kept is_begun (gives t h actor (Begin s clock)) ≡ None
start_none t h actor gate s clock planned is running next none = rw (is.runs.known, sym is.runs.stopped_is, running, is.actor_is, next, none) refl

-- none is given where no command is ready
ready_none : (t : Setting) (h : History) (actor : Actor) (gate : GateState) (s clock : ℕ) → IsGate t h actor gate → gate.stopped ≡ false
    → ready t h gate.gate s ≡ None → kept is_begun (gives t h actor (Begin s clock)) ≡ None
ready_none t h actor gate s clock is running none = rw (is.runs.known, sym is.runs.stopped_is, running, is.actor_is, none) refl

-- a transaction's start
draw_start : (h : History) (g s clock last_time time : ℕ) (command : Command) (parts : List Part) → command ≡ commands.Transact parts → last_time ≡ last g h → time ≡ time_at clock (last_time + 1) → time < 2 ^ 47
    → start_of h g s clock command ≡ Some (Draw (number time g) parts)
draw_start h g s clock last_time time command parts is at made held = rw is (go (sym (made ∙ ap (λ n. time_at clock (n + 1)) at)))
  where
    go : time_at clock (last g h + 1) ≡ time → start_of h g s clock (commands.Transact parts) ≡ Some (Draw (number time g) parts)
    go same = rw (same, lt-ltb time (2 ^ 47) held) refl

no_start : (h : History) (g s clock last_time time : ℕ) (command : Command) (parts : List Part) → command ≡ commands.Transact parts → last_time ≡ last g h → time ≡ time_at clock (last_time + 1) → 2 ^ 47 ≤ time
    → start_of h g s clock command ≡ None
no_start h g s clock last_time time command parts is at made late = rw is (go (sym (made ∙ ap (λ n. time_at clock (n + 1)) at)))
  where
    go : time_at clock (last g h + 1) ≡ time → start_of h g s clock (commands.Transact parts) ≡ None
    go same = rw (same, le-ltb time (2 ^ 47) late) refl

-- ---- what follows from a command that is ready

-- its session is the gateway's
ready_own : (t : Setting) (h : History) (g s : ℕ) (planned : Planned) → ready t h g s ≡ Some planned → is_own g (slice_get t.roster.sessions s) ≡ true
ready_own t h g s planned is = let m = (ready_may t h g s planned is).0 in rw m.session (eq-eqb m.plan.gate g m.own)

-- and in the roster
ready_there : (t : Setting) (h : History) (g s : ℕ) (planned : Planned) → ready t h g s ≡ Some planned → s < length t.roster.sessions
ready_there t h g s planned is = let m = (ready_may t h g s planned is).0 in slice_get_within t.roster.sessions s m.plan m.session

-- the sessions of which a command has begun are still the gateway's
own_more : (t : Setting) (h : History) (g s c : ℕ) → ((one : ℕ) → 0 < begun one (events_of g h) → is_own g (slice_get t.roster.sessions one) ≡ true) → is_own g (slice_get t.roster.sessions s) ≡ true
    → (one : ℕ) → 0 < begun one (events.Begun s c ∷ events_of g h) → is_own g (slice_get t.roster.sessions one) ≡ true
own_more t h g s c owns own one has = by (eqb_tells s one)
  where
    by : (((s == one) ≡ true) × (s ≡ one)) ⊎ (((s == one) ≡ false) × (s ≢ one)) → is_own g (slice_get t.roster.sessions one) ≡ true
    by (inl same) = subst (λ n. is_own g (slice_get t.roster.sessions n) ≡ true) same.1 own
    by (inr other) =
        let less : 0 < max (if s == one then c else 0) (begun one (events_of g h)) = has in
        let still : 0 < max 0 (begun one (events_of g h)) = rw other.0 at less in
        owns one (omega (arith, still))

-- ---- a snapshot

pub look_steps : (t : Setting) (h : History) (actor : Actor) (gate : GateState) (s c clock least : ℕ) (keys : List (List ℕ)) (planned : Planned) (sessions : State) → IsGate t h actor gate → gate.stopped ≡ false
    → ready t h gate.gate s ≡ Some planned → planned.command ≡ commands.Snap keys → c ≡ begun s (events_of gate.gate h) + 1
    → ((roster : Roster) (g : ℕ) (es : List Event) → StandsFor roster g es gate.sessions → least ≡ floor s es)
    → ((roster : Roster) (g : ℕ) (es : List Event) → StandsFor roster g es gate.sessions → StandsFor roster g (events.Begun s (begun s es + 1) ∷ es) sessions)
    → Steps IsGate is_begun t h actor (Begin s clock) (Some (by_gate gate.gate (Began s c (Look least keys)))) (record gate { sessions = sessions })
look_steps t h actor gate s c clock least keys planned sessions is running next command seq floor_is begins =
    let least_is : least ≡ floor s (events_of gate.gate h) = floor_is t.roster gate.gate (events_of gate.gate h) is.sessions_are in
    let starts : start_of h gate.gate s clock planned.command ≡ Some (Look least keys) = rw (command, least_is) refl in
    some_steps is_begun t h actor (Begin s clock) gate (record gate { sessions = sessions }) (Began s c (Look least keys)) is (begin_given t h actor gate s c clock planned (Look least keys) is running next starts seq) (record {
      gate_is = refl;
      topology_is = refl;
      stopped_is = refl;
      last_is = omega arith;
      width = refl;
      marks_are = λ k less. nothing_more (mark_at gate.vector k);
      sessions_are = rw seq (begins t.roster gate.gate (events_of gate.gate h) is.sessions_are);
      latest_count = refl;
      tracked_are = rw (append-nil (draws gate.gate h)) (all_on t.topology gate.gate h (by_gate gate.gate (Began s c (Look least keys)) ∷ h) gate.latest gate.latest
          (tracks_begun t.topology gate.gate h gate.latest gate.latest s c (Look least keys) seq (rw (last_more gate.gate (Began s c (Look least keys)) h) (omega arith)) (λ session other. refl)) (draws gate.gate h) gate.tracked is.tracked_are);
      tracked_rise = is.tracked_rise;
      own = own_more t h gate.gate s c is.own (ready_own t h gate.gate s planned next);
      acked_early = λ v d q yet. let early = is.acked_early v d q yet in omega (arith, early);
    })

-- ---- a transaction

-- none is given where no time is left
pub draw_none : (t : Setting) (h : History) (actor : Actor) (gate : GateState) (s clock time : ℕ) (parts : List Part) (planned : Planned) → IsGate t h actor gate → gate.stopped ≡ false
    → ready t h gate.gate s ≡ Some planned → planned.command ≡ commands.Transact parts → time ≡ time_at clock (gate.last + 1) → 2 ^ 47 ≤ time
    → Steps IsGate is_begun t h actor (Begin s clock) None gate
draw_none t h actor gate s clock time parts planned is running next command made late =
    none_steps is_begun t h actor (Begin s clock) gate is (start_none t h actor gate s clock planned is running next (no_start h gate.gate s clock gate.last time planned.command parts command is.last_is made late))

pub draw_steps : (t : Setting) (h : History) (actor : Actor) (gate : GateState) (s c clock time : ℕ) (parts : List Part) (planned : Planned) (one : Tracked) (sessions : State) (newest : List (Option ℕ)) (tracked : List Tracked)
    → IsGate t h actor gate → gate.stopped ≡ false → gate.gate < 2 ^ 16
    → ready t h gate.gate s ≡ Some planned → planned.command ≡ commands.Transact parts → c ≡ begun s (events_of gate.gate h) + 1
    → time ≡ time_at clock (gate.last + 1) → time < 2 ^ 47
    → IsNew gate.topology (number time gate.gate) s c parts one → tracked ≡ gate.tracked ++ one ∷ [] → newest ≡ slice_set gate.latest s (Some (number time gate.gate))
    → ((roster : Roster) (g : ℕ) (es : List Event) → StandsFor roster g es gate.sessions → StandsFor roster g (events.Begun s (begun s es + 1) ∷ es) sessions)
    → Steps IsGate is_begun t h actor (Begin s clock) (Some (by_gate gate.gate (Began s c (Draw (number time gate.gate) parts)))) (record gate { last = time; sessions = sessions; latest = newest; tracked = tracked })
draw_steps t h actor gate s c clock time parts planned one sessions newest tracked is running small next command seq made held new pushed noted begins =
    let v : ℕ = number time gate.gate in
    let back : time_of (number time gate.gate) ≡ time = time_back time gate.gate (record { early = held; small = small }) in
    let later : gate.last + 1 ≤ time = rw made (omega arith) in
    let idle : begun s (events_of gate.gate h) ≡ replied s (events_of gate.gate h) = (ready_may t h gate.gate s planned next).0.idle in
    let there : s < length gate.latest = rw is.latest_count (ready_there t h gate.gate s planned next) in
    let here : last gate.gate (by_gate gate.gate (Began s c (Draw (number time gate.gate) parts)) ∷ h) ≡ time = last_more gate.gate (Began s c (Draw (number time gate.gate) parts)) h ∙ (rw (back, sym is.last_is) (omega (arith, later))) in
    let clear : (d q : ℕ) → acked gate.gate (number time gate.gate) d q h ≡ false = λ d q. false_from_ne_true (acked gate.gate (number time gate.gate) d q h) (λ yet. early_not (is.acked_early (number time gate.gate) d q yet) back later) in
    let latest_is : get_or newest s None ≡ Some (number time gate.gate) = rw noted (get_or-set_same gate.latest s (Some (number time gate.gate)) None there) in
    let fresh = tracks_new t.topology gate.gate h newest s c (number time gate.gate) parts one (rw (sym is.topology_is) new) seq idle (rw (here, back) (omega arith)) clear latest_is in
    let older = all_on t.topology gate.gate h (by_gate gate.gate (Began s c (Draw (number time gate.gate) parts)) ∷ h) gate.latest newest
    (tracks_begun t.topology gate.gate h gate.latest newest s c (Draw (number time gate.gate) parts) seq (rw (here, sym is.last_is) (omega (arith, later))) (λ session other. rw noted (get_or-set_other gate.latest s session (Some (number time gate.gate)) None other))) (draws gate.gate h) gate.tracked is.tracked_are in
    some_steps is_begun t h actor (Begin s clock) gate (record gate { last = time; sessions = sessions; latest = newest; tracked = tracked }) (Began s c (Draw (number time gate.gate) parts)) is
    (begin_given t h actor gate s c clock planned (Draw (number time gate.gate) parts) is running next (draw_start h gate.gate s clock gate.last time planned.command parts command is.last_is made held) seq) (record {
      gate_is = refl;
      topology_is = refl;
      stopped_is = refl;
      last_is = rw back (omega (arith, later));
      width = refl;
      marks_are = λ k less. nothing_more (mark_at gate.vector k);
      sessions_are = rw seq (begins t.roster gate.gate (events_of gate.gate h) is.sessions_are);
      latest_count = rw noted (length-set gate.latest s (Some (number time gate.gate)));
      tracked_are = rw pushed (all_pushed t.topology gate.gate (by_gate gate.gate (Began s c (Draw (number time gate.gate) parts)) ∷ h) newest (record { session = s; seq = c; version = number time gate.gate; transaction = parts }) one fresh (draws gate.gate h) gate.tracked older);
      tracked_rise = rw pushed (rises_pushed one gate.tracked is.tracked_rise (rw new.version_is (all_early t.topology gate.gate h gate.latest (number time gate.gate) (rw (back, sym is.last_is) (omega (arith, later))) (draws gate.gate h) gate.tracked is.tracked_are)));
      own = own_more t h gate.gate s c is.own (ready_own t h gate.gate s planned next);
      acked_early = λ u d q yet. let early = is.acked_early u d q yet in omega (arith, early);
    })
  where
    early_not : time_of (number time gate.gate) ≤ last gate.gate h → time_of (number time gate.gate) ≡ time → gate.last + 1 ≤ time → ⊥
    early_not early back later = let same = is.last_is in absurd (omega (arith, early, back, later, same))

-- ---- the session's next command

-- the command of the session is the one that may begin
pub command_may : (roster : Roster) (g s c : ℕ) (es : List Event) (m : MayBegin roster g es s c) → command_at roster s c ≡ Some m.planned.command
command_may roster g s c es m = let same : c - 1 ≡ begun s es = let n = m.next in omega (arith, n) in rw (m.session, same, m.further) refl

-- none is given where none may begin
pub none_may : (t : Setting) (h : History) (actor : Actor) (gate : GateState) (s clock : ℕ) → IsGate t h actor gate → gate.stopped ≡ false
    → ((c : ℕ) → MayBegin t.roster gate.gate (events_of gate.gate h) s c → ⊥) → Steps IsGate is_begun t h actor (Begin s clock) None gate
none_may t h actor gate s clock is running none = none_steps is_begun t h actor (Begin s clock) gate is (ready_none t h actor gate s clock is running (by (ready t h gate.gate s) refl))
  where
    by : (o : Option Planned) → ready t h gate.gate s ≡ o → ready t h gate.gate s ≡ None
    by None same = same
    by (Some planned) same = absurd (none _ (ready_may t h gate.gate s planned same).0)

-- a command that may begin is ready, over a roster that is that of the setting
pub ready_for : (t : Setting) (roster : Roster) (h : History) (g s c : ℕ) → t.roster ≡ roster → (m : MayBegin roster g (events_of g h) s c) → ready t h g s ≡ Some m.planned
ready_for t roster h g s c same m = subst (λ r. ready (record { topology = t.topology; roster = r }) h g s ≡ Some m.planned) (sym same) (may_ready (record { topology = t.topology; roster = roster }) h g s c m)

-- what was found as the command is the planned one
pub command_is : (roster : Roster) (g s c : ℕ) (es : List Event) (m : MayBegin roster g es s c) (found : Option Command) (command wanted : Command) → found ≡ command_at roster s c → found ≡ Some command → command ≡ wanted → m.planned.command ≡ wanted
command_is roster g s c es m found command wanted made is same = let there : command_at roster s c ≡ Some m.planned.command = command_may roster g s c es m in cc
