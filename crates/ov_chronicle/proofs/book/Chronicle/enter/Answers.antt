use Rattle.std.proofs.Common.{rules, ap}
use Rattle.std.specs.Vec.{vec_capacity}
use Rattle.ov_chronicle.specs.Rules.{lawful_in}
use Rattle.ov_chronicle.proofs.Keeps.{out_is, takes_list}
use Rattle.ov_chronicle.proofs.book.Chronicle.enter.Goals as goal

pub exchange-requires : goal.exchange-requires
exchange-requires g c = let t = c.wait_turn.ensures.turn in (search rules, (t.1, out_is _ _ (ap (λ m. m.1) t.3)))

pub returns-clause-turn : goal.returns-clause-turn
returns-clause-turn g c = takes_list (λ w. w.items) vec_capacity g.S.Saga.actor_of (lawful_in g.S.Saga.lawful) c.args.seat.now.me.0 c.wait_turn.new.seat.me _ _ _ c.wait_turn.ensures.turn c.exchange.ensures.2 c.exchange.ensures.3
