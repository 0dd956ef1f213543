-- Which nodes have acknowledged a version to its gateway.
use Rattle.std.specs.Prelude.{◌==◌, ℕ, Bool, false, ◌&&◌, if◌then◌else◌}
use Rattle.ov_topology.specs.Shape.{Shape}
use Rattle.ov_event.specs.declared.kind.Kind.{Kind}
use Rattle.ov_event.specs.declared.kind.Kind.TheVariants.{Acked}
use Rattle.ov_event.specs.Letters.{is_gate}
use Rattle.ov_history.specs.Past.{History, some}
use Rattle.ov_history.specs.Counts.{weight}

-- whether an entry takes the acknowledgement of the version by this node
abbrev pub acks : ℕ → ℕ → ℕ → Kind → Bool
acks v c p (Acked place version centre part) = (version == v) && ((centre == c) && (part == p))
acks v c p other = false

-- whether the gateway has taken an acknowledgement of the version by this node
abbrev pub acked : ℕ → ℕ → ℕ → ℕ → History → Bool
acked g v c p h = some (λ e. if is_gate g e.actor then acks v c p e.kind else false) h

-- the votes of the centres that have acknowledged the version in the partition
abbrev pub ackers : Shape → ℕ → ℕ → ℕ → History → ℕ
ackers t g v p h = weight t (λ c. acked g v c p h)
