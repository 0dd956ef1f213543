-- Which nodes hold a version.
use Rattle.std.specs.Prelude.{◌==◌, ℕ, Bool, false, if◌then◌else◌}
use Rattle.ov_topology.specs.Shape.{Shape}
use Rattle.ov_event.specs.declared.kind.Kind.{Kind}
use Rattle.ov_event.specs.declared.kind.Kind.TheVariants.{Stored}
use Rattle.ov_history.specs.Past.{History, some, is_node}
use Rattle.ov_history.specs.Counts.{weight, all_below}

-- whether an entry stores the version
abbrev pub stores : ℕ → Kind → Bool
stores v (Stored place version items) = version == v
stores v other = false

-- whether the node of the centre and partition has stored the version
abbrev pub stored : ℕ → ℕ → ℕ → History → Bool
stored c p v h = some (λ e. if is_node c p e.actor then stores v e.kind else false) h

-- the votes of the centres that hold the version in the partition
abbrev pub holders : Shape → ℕ → ℕ → History → ℕ
holders t v p h = weight t (λ c. stored c p v h)

-- whether all nodes of the partition hold the version
abbrev pub all_hold : Shape → ℕ → ℕ → History → Bool
all_hold t v p h = all_below (λ c. stored c p v h) t.centres
