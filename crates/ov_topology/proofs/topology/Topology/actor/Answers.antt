use Rattle.ov_topology.specs.Actor.{IsActor}
use Rattle.ov_topology.proofs.Numbers.{number_of_actor, actor_has_word, if_answered}
use Rattle.ov_topology.proofs.topology.Topology.actor.Goals as goal

pub returns-clause-word : goal.returns-clause-word
returns-clause-word c =
    let shape = c.actor_in_order.ensures.form in
    if_answered IsActor c.actor_in_order.result _ c.actor_in_order.ensures.value
    (λ actor e. actor_has_word c.args.self.now shape actor c.args.number (number_of_actor c.args.self.now shape c.args.number actor e))
