-- Whether a command begins, or marks are published, does not hang on the reading of the clock.
use Rattle.std.proofs.Common.{◌≡◌, ℕ, ◌+◌, ◌<◌, ◌^◌, min, max, Some, None, List, refl, arith}
use Rattle.std.proofs.lemmas.Bool.{lt-ltb}
use Rattle.ov_base.specs.Version.{number, time_of}
use Rattle.ov_functor.specs.declared.command.Command.{Command}
use Rattle.ov_functor.specs.declared.command.Command.TheVariants as commands
use Rattle.ov_gossip.specs.declared.marks.Marks.{Marks}
use Rattle.ov_topology.specs.Shape.{gates}
use Rattle.ov_topology.specs.declared.actor.Actor.{Actor}
use Rattle.ov_topology.specs.declared.actor.Actor.TheVariants.{Gate, Node, Settler}
use Rattle.ov_session.specs.Events.{floor}
use Rattle.ov_event.specs.declared.kind.Kind.TheVariants.{Began, Published}
use Rattle.ov_event.specs.declared.start.Start.{Start}
use Rattle.ov_event.specs.declared.start.Start.TheVariants.{Draw, Look}
use Rattle.ov_history.specs.Past.{History}
use Rattle.ov_history.specs.Draws.{last}
use Rattle.ov_history.specs.Marks.{top_time}
use Rattle.ov_history.specs.Sessions.{events_of}
use Rattle.ov_history.specs.Gives.{Begin, Publish, clock_end, timed, time_at, start_of}
use Rattle.ov_history.specs.May.{Setting, IsTime, StartsAs, May}
use Rattle.ov_history.specs.Cores.{Steps}
use Rattle.ov_history.proofs.Giving.{may_ready}
use Rattle.ov_gate.specs.Gate.{GateState, IsGate, is_begun, is_published}

-- where a time is left, each reading of the clock gives one
time_left : (clock least time : ℕ) → IsTime least time → timed (time_at clock least) ≡ Some (time_at clock least)
time_left clock least time at = rw (lt-ltb (time_at clock least) (2 ^ 47) (below clock clock_end least (omega arith) (omega (arith, at.later, at.held)))) refl
  where
    below : (clock end least : ℕ) → end < 2 ^ 47 → least < 2 ^ 47 → max (min clock end) least < 2 ^ 47
    below clock end least early held = omega (arith, early, held)

-- a command that starts so starts somehow at each reading
start_left : (h : History) (g s clock : ℕ) (command : Command) (start : Start) → StartsAs h g s command start → (other : Start) × (start_of h g s clock command ≡ Some other)
start_left h g s clock (commands.Transact parts) (Draw version transaction) starts =
    (Draw (number (time_at clock (last g h + 1)) g) parts, rw (time_left clock (last g h + 1) (time_of version) starts.1.time) refl)
start_left h g s clock (commands.Transact parts) (Look least keys) starts = absurd starts
start_left h g s clock (commands.Snap keys) (Draw version transaction) starts = absurd starts
start_left h g s clock (commands.Snap keys) (Look least others) starts = (Look (floor s (events_of g h)) keys, refl)

-- where a call begins no command at one reading of the clock, none of its session may begin
pub none_begins : (t : Setting) (h : History) (actor : Actor) (gate : GateState) (s clock c : ℕ) (start : Start) → Steps IsGate is_begun t h actor (Begin s clock) None gate → May t h (record { actor = actor; kind = Began s c start }) → ⊥
none_begins t h (Gate g) gate s clock c start steps may =
    let is = may_ready t h g s c may.guard.ready in
    let other = start_left h g s clock may.guard.ready.planned.command start may.guard.starts in
    let none = rw (may.known, may.running, is, other.1) at steps.given in
    absurd cc
none_begins t h (Node centre part) gate s clock c start steps may = absurd may.guard
none_begins t h (Settler centre) gate s clock c start steps may = absurd may.guard

-- where a call publishes nothing at one reading of the clock, nothing may be published
pub none_publishes : (t : Setting) (h : History) (actor : Actor) (gate : GateState) (clock time : ℕ) (vector : List Marks) → Steps IsGate is_published t h actor (Publish clock) None gate → May t h (record { actor = actor; kind = Published time vector }) → ⊥
none_publishes t h (Gate g) gate clock time vector steps may =
    let left = time_left clock (max (last g h + 1) (top_time (Gate g) (gates t.topology) h)) time may.guard.at in
    let none = rw (may.known, may.running, left) at steps.given in
    absurd cc
none_publishes t h (Node centre part) gate clock time vector steps may = absurd may.guard
none_publishes t h (Settler centre) gate clock time vector steps may = absurd may.guard
