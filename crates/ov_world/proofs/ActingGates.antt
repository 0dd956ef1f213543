-- What a gateway gives for its own acts is of the kinds that its calls make.
use Rattle.std.proofs.Common.{ℕ, ◌+◌, max, refl}
use Rattle.ov_topology.specs.Shape.{Shape, gates}
use Rattle.ov_topology.specs.declared.actor.Actor.TheVariants.{Gate}
use Rattle.ov_session.specs.Events.{begun}
use Rattle.ov_event.specs.declared.kind.Kind.TheVariants.{Began, Published}
use Rattle.ov_history.specs.Past.{History}
use Rattle.ov_history.specs.Draws.{last}
use Rattle.ov_history.specs.Marks.{top_time}
use Rattle.ov_history.specs.Sessions.{events_of}
use Rattle.ov_history.specs.Gives.{begins, publishes, ready, start_of, time_at, timed, vector_to}
use Rattle.ov_history.specs.May.{Setting}
use Rattle.ov_gate.specs.Gate.{is_begun, is_published}
use Rattle.ov_world.proofs.Acting.{Passes, one_passes, bound_passes}

-- a command that it begins
pub begins_passes : (t : Setting) (h : History) (g s clock : ℕ) → Passes is_begun (begins t h g s clock)
begins_passes t h g s clock =
    bound_passes is_begun (ready t h g s) _ (λ planned.
    bound_passes is_begun (start_of h g s clock planned.command) _ (λ start.
    one_passes is_begun (Began s (begun s (events_of g h) + 1) start) refl))

-- its marks that it publishes
pub publishes_passes : (t : Shape) (h : History) (g clock : ℕ) → Passes is_published (publishes t h g clock)
publishes_passes t h g clock =
    bound_passes is_published (timed (time_at clock (max (last g h + 1) (top_time (Gate g) (gates t) h)))) _ (λ time.
    one_passes is_published (Published time (vector_to t g time h (gates t))) refl)
