use Rattle.std.proofs.Common.{rules, arith}
use Rattle.std.specs.Prelude.{None}
use Rattle.std.specs.Vec.{vec_capacity}
use Rattle.ov_chronicle.specs.Rules.{lawful_in}
use Rattle.ov_chronicle.proofs.Keeps.{takes_in}
use Rattle.ov_chronicle.proofs.book.Chronicle.take_in.Goals as goal

pub join_seat-requires : goal.join_seat-requires
join_seat-requires g c =
    let w = c.self.invariant.0 in let f = c.requires.first.0 in let i = c.other.invariant.0 in (
      search rules,
      search rules,
      i.0,
      omega arith,
      takes_in (λ w. w.items) vec_capacity g.S.Saga.actor_of (lawful_in g.S.Saga.lawful) None _ c.args.first.now.me.0 _ c.other.inside.seat.me.0 c.requires.first.1 f.1 f.3 i.1 i.2 i.3,
    )
