use Rattle.std.proofs.Common.{rules, ◌≡◌, ◌+◌, ◌∙◌, length, ap, subst, true, false, refl, List, IfSome, arith}
use Rattle.ov_base.specs.declared.value.Value.{Value}
use Rattle.ov_cells.specs.Rules.{has, value_among}
use Rattle.ov_cells.specs.Seats.{SeenSeat, HasLearnt}
use Rattle.ov_cells.proofs.Seen.{looked_same, looked_learnt, looked_most, looked_some, looked_none, seen}
use Rattle.ov_cells.proofs.Steps.{looks}
use Rattle.ov_cells.proofs.cells.Cells.peek.Goals as goal

pub load-requires : goal.load-requires
load-requires c =
    let words = c.self.invariant.1 in
    let long : length c.self.inside.plan ≡ length c.args.self.now.tasks = ap (λ cells. length cells.tasks) c.self.view_is in
    (search rules, omega arith, looks _ _ _ _ _ (search rules))

pub value_in-requires : goal.value_in-requires
value_in-requires c = looked_most c.seat.inside.seat.me c.args.place _ _ (c.load.ensures.2 c.args.place refl)

pub invariant_of-seat : goal.invariant_of-seat
invariant_of-seat c =
    let same = looked_same c.seat.inside.seat.me c.args.place _ _ (c.load.ensures.2 c.args.place refl) in
    (same.0 ∙ c.seat.invariant.0, same.1 ∙ c.seat.invariant.1, c.seat.invariant.2)

pub returns-clause-learnt : goal.returns-clause-learnt
returns-clause-learnt c =
    subst (λ (s : SeenSeat). HasLearnt (c.args.place + 1) s (seen c.load.new.seat.table_id c.load.new.seat.me.0 c.seat.inside.parts)) c.seat.view_is
    (looked_learnt c.seat.inside.seat.me c.args.place _ _ (c.load.ensures.2 c.args.place refl) _ _ c.seat.inside.parts c.load.ensures.0)

pub returns-clause-some : goal.returns-clause-some
returns-clause-some c =
    let values = ap (λ (s : SeenSeat). s.values) c.seat.view_is ∙ c.requires.own.1 in
    subst (λ (l : List Value). IfSome c.value_in.result (λ value. (value ≡ value_among l c.args.place) × (has c.load.new.seat.me.0.known c.args.place ≡ true))) values
    (looked_some c.seat.inside.seat.me c.args.place _ _ (c.load.ensures.2 c.args.place refl) c.value_in.result c.value_in.ensures.none c.value_in.ensures.some)

pub returns-clause-none : goal.returns-clause-none
returns-clause-none c =
    looked_none c.seat.inside.seat.me c.args.place _ _ (c.load.ensures.2 c.args.place refl) _ c.value_in.result c.value_in.ensures.some
    (λ same isnt. (
      (λ i. seen (c.load.ensures.0 i) (same i).0 c.seat.inside.parts) ∙ c.seat.view_is,
      subst (λ (s : SeenSeat). has s.known c.args.place ≡ false) c.seat.view_is isnt,
    ))
