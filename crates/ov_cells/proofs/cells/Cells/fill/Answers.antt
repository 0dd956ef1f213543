use Rattle.std.proofs.Common.{rules, ◌≡◌, ◌+◌, ◌∙◌, [], length, ap, sym, subst, true, refl, arith}
use Rattle.ov_window.specs.Evaluation.{values_of}
use Rattle.ov_cells.specs.Rules.{has, value_among, IsCodeOf}
use Rattle.ov_cells.specs.Seats.{SeenSeat, HasLearnt}
use Rattle.ov_cells.proofs.Values.{values_long}
use Rattle.ov_cells.proofs.Known.{learn_has}
use Rattle.ov_cells.proofs.Seen.{learns_one, seen}
use Rattle.ov_cells.proofs.Steps.{fills}
use Rattle.ov_cells.proofs.cells.Cells.fill.Goals as goal

pub compare_exchange-requires : goal.compare_exchange-requires
compare_exchange-requires c =
    let words = c.self.invariant.1 in
    let key : c.self.inside.table.shared.key ≡ c.args.self.now.tasks = c.self.invariant.0 ∙ ap (λ cells. cells.tasks) c.self.view_is in
    let long : length c.self.inside.plan ≡ length c.args.self.now.tasks = ap (λ cells. length cells.tasks) c.self.view_is in
    let keys : length c.self.inside.table.shared.key ≡ length c.args.self.now.tasks = ap (λ l. length l) key in
    let count = values_long [] c.self.inside.table.shared.key in
    let is : IsCodeOf c.word_of-word.result (value_among (values_of c.self.inside.table.shared.key) c.args.place) =
    subst (λ v. IsCodeOf c.word_of-word.result v) (c.requires.value ∙ ap (λ l. value_among (values_of l) c.args.place) (sym key)) (c.word_of-word.ensures.form, c.word_of-word.ensures.code) in
    (search rules, omega arith, fills _ _ _ _ _ _ (search rules) (omega arith) is)

pub invariant_of-seat : goal.invariant_of-seat
invariant_of-seat c =
    let told = c.compare_exchange.ensures.2 c.args.place refl in
    rw told c.seat.invariant

pub returns-clause-learnt : goal.returns-clause-learnt
returns-clause-learnt c =
    let told = c.compare_exchange.ensures.2 c.args.place refl in
    subst (λ (s : SeenSeat). HasLearnt (c.args.place + 1) s (seen c.compare_exchange.new.seat.table_id c.compare_exchange.new.seat.me.0 c.seat.inside.parts)) c.seat.view_is
    (learns_one _ _ _ _ c.seat.inside.parts c.args.place c.compare_exchange.ensures.0 (ap (λ me. me.0) told))

pub returns-clause-known : goal.returns-clause-known
returns-clause-known c =
    let told = c.compare_exchange.ensures.2 c.args.place refl in
    subst (λ v. has v.known c.args.place ≡ true) (sym (ap (λ me. me.0) told)) (learn_has c.seat.inside.seat.me.0.known c.args.place)
