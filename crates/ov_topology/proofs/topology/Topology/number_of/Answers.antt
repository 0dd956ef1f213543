use Rattle.std.proofs.Common.{◌≡◌, ◌<◌, Some}
use Rattle.ov_topology.specs.Numbers.{actors, actor_at}
use Rattle.ov_topology.proofs.Numbers.{actor_of_number, number_below, if_answered}
use Rattle.ov_topology.proofs.topology.Topology.number_of.Goals as goal

pub returns-clause-inverse : goal.returns-clause-inverse
returns-clause-inverse c = if_answered (λ n. actor_at c.args.self.now n ≡ Some c.args.actor) c.number_in_order.result _ c.number_in_order.ensures (actor_of_number c.args.self.now c.args.actor)

pub returns-clause-there : goal.returns-clause-there
returns-clause-there c = if_answered (λ n. n < actors c.args.self.now) c.number_in_order.result _ c.number_in_order.ensures (number_below c.args.self.now c.args.actor)
