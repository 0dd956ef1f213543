-- The lines by which nodes store what an entry writes.
use Rattle.std.specs.Prelude.{ℕ, List, [], if◌then◌else◌}
use Rattle.ov_topology.specs.declared.actor.Actor.TheVariants.{Node}
use Rattle.ov_history.specs.Past.{History}
use Rattle.ov_follow.specs.Lines.{Line}
use Rattle.ov_follow.specs.Passes.{running, stored_from, take}

-- a node of a partition takes the letter of an entry, where it has not stored it from there
abbrev pub node_stores : ℕ → ℕ → ℕ → History → ℕ → List Line
node_stores number letter p h c = if stored_from (Node c p) (record { entry = number; letter = letter }) h then [] else running h (take (Node c p) number letter)
