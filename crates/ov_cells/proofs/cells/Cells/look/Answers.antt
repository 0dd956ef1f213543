use Rattle.std.proofs.Common.{rules, ◌≡◌, ◌∙◌, length, ap, sym, subst, true, refl, arith}
use Rattle.ov_cells.specs.Rules.{has, value_among}
use Rattle.ov_cells.specs.Seats.{SeenSeat}
use Rattle.ov_cells.proofs.Seen.{looked_known, looked_most, seen}
use Rattle.ov_cells.proofs.Steps.{looks}
use Rattle.ov_cells.proofs.cells.Cells.look.Goals as goal

pub load-requires : goal.load-requires
load-requires c =
    let words = c.self.invariant.1 in
    let long : length c.self.inside.plan ≡ length c.args.self.now.tasks = ap (λ cells. length cells.tasks) c.self.view_is in
    (search rules, omega arith, looks _ _ _ _ _ (search rules))

pub value_of-requires : goal.value_of-requires
value_of-requires c = looked_most c.seat.inside.seat.me c.args.place _ _ (c.load.ensures.2 c.args.place refl)

pub invariant_of-seat : goal.invariant_of-seat
invariant_of-seat c =
    let known = subst (λ (s : SeenSeat). has s.known c.args.place ≡ true) (sym c.seat.view_is) c.requires.known in
    let told = looked_known c.seat.inside.seat.me c.args.place _ _ (c.load.ensures.2 c.args.place refl) known in
    rw told.0 c.seat.invariant

pub returns-clause-value : goal.returns-clause-value
returns-clause-value c =
    let known = subst (λ (s : SeenSeat). has s.known c.args.place ≡ true) (sym c.seat.view_is) c.requires.known in
    let told = looked_known c.seat.inside.seat.me c.args.place _ _ (c.load.ensures.2 c.args.place refl) known in
    let values = ap (λ (s : SeenSeat). s.values) c.seat.view_is ∙ c.requires.own.1 in
    c.value_of.ensures _ told.1.0 told.1.1 ∙ ap (λ l. value_among l c.args.place) values

pub returns-clause-seat : goal.returns-clause-seat
returns-clause-seat c =
    let known = subst (λ (s : SeenSeat). has s.known c.args.place ≡ true) (sym c.seat.view_is) c.requires.known in
    let told = looked_known c.seat.inside.seat.me c.args.place _ _ (c.load.ensures.2 c.args.place refl) known in
    let now : seen c.load.new.seat.table_id c.load.new.seat.me.0 c.seat.inside.parts ≡ seen c.seat.inside.seat.table_id c.seat.inside.seat.me.0 c.seat.inside.parts =
    λ i. seen (c.load.ensures.0 i) (told.0 i).0 c.seat.inside.parts in
    now ∙ c.seat.view_is
