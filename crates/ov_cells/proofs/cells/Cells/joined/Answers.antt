use Rattle.std.proofs.Common.{◌++◌, ◌∙◌, ◌||◌, ap, sym, subst, arith}
use Rattle.std.specs.List.{AllByRecursion}
use Rattle.std.specs.Prelude.{option_to_list}
use Rattle.ov_cells.specs.Rules.{has}
use Rattle.ov_cells.specs.Seats.{IsSeatOf, known_by, parts_of}
use Rattle.ov_cells.proofs.Closing.{all_snoc, known_snoc, last_taken, parts_snoc}
use Rattle.ov_cells.proofs.cells.Cells.joined.Goals as goal

pub loop-other-init : goal.loop-other-init
loop-other-init c =
    let seats = c.pop.ensures.items ∙ ap (λ o. c.pop.new.self.items ++ option_to_list o) c.in-Some.is in
    let own = all_snoc (IsSeatOf c.args.self.now) c.pop.new.self.items c.in-Some.seat (subst (AllByRecursion (IsSeatOf c.args.self.now)) seats c.requires.own) in
    let parts = parts_snoc c.pop.new.self.items c.in-Some.seat in
    let whole = ap parts_of seats in
    (own.1, own.0, omega (arith, c.requires.whole), λ place. sym (ap (λ l. known_by l place) seats ∙ known_snoc c.pop.new.self.items c.in-Some.seat place))

pub join-requires-clause-other : goal.join-requires-clause-other
join-requires-clause-other c =
    let seats = c.pop-in-loop-other.ensures.items ∙ ap (λ o. c.pop-in-loop-other.new.self.items ++ option_to_list o) c.in-Some-pop.is in
    (all_snoc (IsSeatOf c.args.self.now) c.pop-in-loop-other.new.self.items c.in-Some-pop.other (subst (AllByRecursion (IsSeatOf c.args.self.now)) seats c.loop-other.invariant.1)).1

pub loop-other-preserved : goal.loop-other-preserved
loop-other-preserved c =
    let others = c.pop-in-loop-other.new.self.items in
    let seats = c.pop-in-loop-other.ensures.items ∙ ap (λ o. c.pop-in-loop-other.new.self.items ++ option_to_list o) c.in-Some-pop.is in
    let own = all_snoc (IsSeatOf c.args.self.now) others c.in-Some-pop.other (subst (AllByRecursion (IsSeatOf c.args.self.now)) seats c.loop-other.invariant.1) in
    let parts = parts_snoc others c.in-Some-pop.other in
    let whole = ap parts_of seats in (
      c.join.ensures.own,
      own.0,
      omega (arith, c.loop-other.invariant.2, c.join.ensures.parts),
      λ place. last_taken others c.in-Some-pop.other c.loop-other.seat.known c.join.new.seat.known place (c.join.ensures.known place)
          ∙ ap (λ l. known_by l place || has c.loop-other.seat.known place) (sym seats) ∙ c.loop-other.invariant.3 place,
    )
