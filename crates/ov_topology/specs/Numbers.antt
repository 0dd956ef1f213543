-- The actors of a topology in their order: gateways upwards, then nodes by centre and then partition, then settlers
-- upwards. An actor's number is its place in this order, from 0.
use Rattle.std.specs.Prelude.{ℕ, ◌+◌, ◌-◌, ◌*◌, ◌/◌, ◌%◌, ◌&&◌, nat_lt, Option, Some, None, if◌then◌else◌}
use Rattle.ov_topology.specs.Shape.{Shape, gates}
use Rattle.ov_topology.specs.declared.actor.Actor.{Actor}
use Rattle.ov_topology.specs.declared.actor.Actor.TheVariants.{Gate, Node, Settler}

-- how many nodes there are
abbrev pub nodes : Shape → ℕ
nodes t = t.centres * t.partitions

-- how many actors there are
abbrev pub actors : Shape → ℕ
actors t = gates t + nodes t + t.centres

-- the number of an actor, where the topology has it
abbrev pub number_of : Shape → Actor → Option ℕ
number_of t (Gate gate) = if nat_lt gate (gates t) then Some gate else None
number_of t (Node centre part) =
    if nat_lt centre t.centres && nat_lt part t.partitions then Some (gates t + centre * t.partitions + part) else None
number_of t (Settler centre) = if nat_lt centre t.centres then Some (gates t + nodes t + centre) else None

-- the settler that stands there, counted from the first settler
abbrev pub settler_at : Shape → ℕ → Option Actor
settler_at t number = if nat_lt number t.centres then Some (Settler number) else None

-- the node or settler that stands there, counted from the first node
abbrev pub node_at : Shape → ℕ → Option Actor
node_at t number = if nat_lt number (nodes t) then Some (Node (number / t.partitions) (number % t.partitions)) else settler_at t (number - nodes t)

-- the actor of a number, where there is one
abbrev pub actor_at : Shape → ℕ → Option Actor
actor_at t number = if nat_lt number (gates t) then Some (Gate number) else node_at t (number - gates t)
