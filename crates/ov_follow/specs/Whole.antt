-- When enough actors run.
use Rattle.std.specs.Prelude.{◌≡◌, ℕ, ◌≤◌, ◌<◌, max, false, not}
use Rattle.ov_topology.specs.Shape.{Shape, gates}
use Rattle.ov_topology.specs.declared.actor.Actor.TheVariants.{Gate, Node, Settler}
use Rattle.ov_history.specs.Past.{History, stopped}
use Rattle.ov_history.specs.Counts.{weight}

-- The world is whole: no gateway and no settler has stopped, and of each partition nodes run in centres enough for the greater of the
-- two quorums.
pub record IsWhole (t : Shape) (h : History) : Type 0 where
  pub gateways : (g : ℕ) → g < gates t → stopped (Gate g) h ≡ false
  pub settlers : (s : ℕ) → s < t.centres → stopped (Settler s) h ≡ false
  pub nodes : (p : ℕ) → p < t.partitions → max t.write t.read ≤ weight t (λ c. not (stopped (Node c p) h))
