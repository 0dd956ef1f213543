use Rattle.std.proofs.Common.{rules, arith}
use Rattle.std.specs.Vec.{vec_capacity}
use Rattle.ov_chronicle.specs.Rules.{lawful_in}
use Rattle.ov_chronicle.proofs.Keeps.{draws, looks_waiting, turn_comes}
use Rattle.ov_chronicle.proofs.book.Chronicle.wait_turn.Goals as goal

pub fetch_add-ticket-requires : goal.fetch_add-ticket-requires
fetch_add-ticket-requires g c =
    let w = c.self.invariant.0 in let i = c.requires.idle in
    (search rules, omega arith, draws _ _ _ _ _ _ _ i.1 i.2 i.3)

pub load-requires : goal.load-requires
load-requires g c =
    let w = c.self.invariant.0 in let i = c.loop.invariant in
    (search rules, omega arith, looks_waiting (λ w. w.items) vec_capacity g.S.Saga.actor_of (lawful_in g.S.Saga.lawful) _ _ _ c.args.seat.now.me.0 c.loop.seat.me c.requires.idle.1 i.2)

pub returns-then-load-ticket-clause-turn : goal.returns-then-load-ticket-clause-turn
returns-then-load-ticket-clause-turn g c = turn_comes (λ w. w.items) vec_capacity g.S.Saga.actor_of (lawful_in g.S.Saga.lawful) 0 _ _ c.args.seat.now.me.0 c.loop.seat.me _ c.loop.invariant.2 c.if-load-ticket.true c.load.ensures.2
