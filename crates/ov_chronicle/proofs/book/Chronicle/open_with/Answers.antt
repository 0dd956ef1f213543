use Rattle.std.specs.Vec.{vec_capacity}
use Rattle.ov_chronicle.specs.Rules.{lawful_in}
use Rattle.ov_chronicle.proofs.Closings.{opened}
use Rattle.ov_chronicle.proofs.book.Chronicle.open_with.Goals as goal

pub returns-clause-limit : goal.returns-clause-limit
returns-clause-limit g c = (opened (λ w. w.items) vec_capacity g.S.Saga.actor_of (lawful_in g.S.Saga.lawful) c.args.first.id c.args.first.me.0 c.args.first.me.1 _ _ c.take-list.result c.requires.first.0 c.requires.first.1 c.requires.first.2 c.close_with-closed.ensures.values.2 c.take-list.ensures.value).0

pub returns-clause-actors : goal.returns-clause-actors
returns-clause-actors g c = (opened (λ w. w.items) vec_capacity g.S.Saga.actor_of (lawful_in g.S.Saga.lawful) c.args.first.id c.args.first.me.0 c.args.first.me.1 _ _ c.take-list.result c.requires.first.0 c.requires.first.1 c.requires.first.2 c.close_with-closed.ensures.values.2 c.take-list.ensures.value).1

pub returns-clause-told : goal.returns-clause-told
returns-clause-told g c = (opened (λ w. w.items) vec_capacity g.S.Saga.actor_of (lawful_in g.S.Saga.lawful) c.args.first.id c.args.first.me.0 c.args.first.me.1 _ _ c.take-list.result c.requires.first.0 c.requires.first.1 c.requires.first.2 c.close_with-closed.ensures.values.2 c.take-list.ensures.value).2
