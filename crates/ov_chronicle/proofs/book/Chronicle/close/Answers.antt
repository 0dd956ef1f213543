use Rattle.std.proofs.Common.{◌<◌, length, ap, subst, arith}
use Rattle.ov_chronicle.specs.Rules.{lawful_in}
use Rattle.ov_chronicle.specs.Seats.{Book, AreTold}
use Rattle.ov_chronicle.proofs.Closings.{all_seats, first_of, kept_of_all, others_of, told_all, told_in_turn}
use Rattle.ov_chronicle.proofs.book.Chronicle.close.Goals as goal

pub remove-first-requires : goal.remove-first-requires
remove-first-requires g c =
    let some_there = subst (λ (b : Book). 0 < b.actors) c.self.view_is c.self.invariant.2 in let count = c.requires.seats.0 in let own = c.args.seats.ok in
    omega (arith, some_there, count, own.0)

pub gather-first-requires-clause-first : goal.gather-first-requires-clause-first
gather-first-requires-clause-first g c κs within =
    let some_there = subst (λ (b : Book). 0 < b.actors) c.self.view_is c.self.invariant.2 in
    first_of c.args.self c.remove-first.result c.remove-first.new.self.items c.args.seats.items
    (all_seats c.args.self c.args.seats.items c.remove-first.result c.remove-first.new.self.items some_there c.remove-first.ensures.value c.remove-first.ensures.items c.requires.seats) c.requires.seats

pub gather-first-requires-clause-others : goal.gather-first-requires-clause-others
gather-first-requires-clause-others g c κs within =
    let some_there = subst (λ (b : Book). 0 < b.actors) c.self.view_is c.self.invariant.2 in
    let whole = all_seats c.args.self c.args.seats.items c.remove-first.result c.remove-first.new.self.items some_there c.remove-first.ensures.value c.remove-first.ensures.items c.requires.seats in
    let long = ap length whole in let count = c.requires.seats.0 in
    (others_of c.args.self c.remove-first.result c.remove-first.new.self.items c.args.seats.items whole c.requires.seats, omega (arith, long, count))

pub returns-clause-history : goal.returns-clause-history
returns-clause-history g c =
    let some_there = subst (λ (b : Book). 0 < b.actors) c.self.view_is c.self.invariant.2 in let actor_of = g.S.Saga.actor_of in let lawful = lawful_in g.S.Saga.lawful in
    let whole = all_seats c.args.self c.args.seats.items c.remove-first.result c.remove-first.new.self.items some_there c.remove-first.ensures.value c.remove-first.ensures.items c.requires.seats in
    told_all actor_of lawful c.open_with.result.items c.args.seats.items (subst (AreTold actor_of lawful c.open_with.result.items)
    (kept_of_all c.remove-first.result c.remove-first.new.self.items c.args.seats.items c.gather-first.result.me whole c.gather-first.ensures.gathered) c.open_with.ensures.told)

pub returns-clause-turns : goal.returns-clause-turns
returns-clause-turns g c =
    let some_there = subst (λ (b : Book). 0 < b.actors) c.self.view_is c.self.invariant.2 in let actor_of = g.S.Saga.actor_of in let lawful = lawful_in g.S.Saga.lawful in
    let whole = all_seats c.args.self c.args.seats.items c.remove-first.result c.remove-first.new.self.items some_there c.remove-first.ensures.value c.remove-first.ensures.items c.requires.seats in
    told_in_turn actor_of lawful c.open_with.result.items c.args.seats.items (subst (AreTold actor_of lawful c.open_with.result.items)
    (kept_of_all c.remove-first.result c.remove-first.new.self.items c.args.seats.items c.gather-first.result.me whole c.gather-first.ensures.gathered) c.open_with.ensures.told)
