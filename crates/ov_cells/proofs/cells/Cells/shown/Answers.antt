use Rattle.std.proofs.Common.{◌≡◌, ℕ, ◌+◌, ◌∙◌, List, [], length, Some, None, if◌then◌else◌, ap, sym, subst, arith}
use mathlib.Core.Option.{some}
use lib.ListN.{get_elem?}
use Rattle.ov_window.specs.Evaluation.{values_of}
use Rattle.ov_cells.specs.Rules.{has, all_parts, value_among}
use Rattle.ov_cells.proofs.Closing.{found_most, found_shown, shown_more, shown_whole}
use Rattle.ov_cells.proofs.Values.{values_long}
use Rattle.ov_cells.proofs.cells.Cells.shown.Goals as goal

pub value_in-requires : goal.value_in-requires
value_in-requires c =
    let last = c.close_with-closed.ensures.values.2 in
    let parts : c.seat.inside.seat.me.0.parts ≡ all_parts = c.seat.invariant.1 ∙ ap (λ seat. seat.parts) c.seat.view_is ∙ c.requires.whole in
    let there = subst (λ (words : List ℕ). get_elem? words (c.loop-place.place + 1) ≡ some c.word.result) (sym last.2) c.word.ensures in
    found_most _ _ _ c.seat.inside.seat.id _ last.1.0 last.1.1 parts c.loop-place.place c.word.result there

pub loop-place-preserved : goal.loop-place-preserved
loop-place-preserved c =
    let last = c.close_with-closed.ensures.values.2 in
    let parts : c.seat.inside.seat.me.0.parts ≡ all_parts = c.seat.invariant.1 ∙ ap (λ seat. seat.parts) c.seat.view_is ∙ c.requires.whole in
    let there = subst (λ (words : List ℕ). get_elem? words (c.loop-place.place + 1) ≡ some c.word.result) (sym last.2) c.word.ensures in
    let key : c.self.inside.table.shared.key ≡ c.args.self.tasks = c.self.invariant.0 ∙ ap (λ cells. cells.tasks) c.self.view_is in
    let known = ap (λ seat. seat.known) c.seat.view_is in
    let one = found_shown _ _ _ c.seat.inside.seat.id _ last.1.0 last.1.1 parts c.loop-place.place c.word.result there c.value_in.result c.value_in.ensures.none c.value_in.ensures.some in
    let here = one ∙ (λ i. if has (known i) c.loop-place.place then Some (value_among (values_of (key i)) c.loop-place.place) else None) in
    let count = values_long [] c.args.self.tasks in
    let tasks : length c.tasks-place-end.result.now ≡ length c.args.self.tasks = ap (λ l. length l) c.tasks-place-end.ensures.tasks ∙ ap (λ cells. length cells.tasks) c.self.view_is in (
      c.push_within.ensures.items ∙ shown_more (has c.args.seat.known) (values_of c.args.self.tasks) c.loop-place.place c.loop-place.values.items c.value_in.result (omega arith) c.loop-place.invariant.0 here,
      omega (arith, c.loop-place.invariant.1, c.push_within.ensures.capacity),
    )

pub returns-clause-values : goal.returns-clause-values
returns-clause-values c =
    let count = values_long [] c.args.self.tasks in
    let tasks : length c.tasks-place-end.result.now ≡ length c.args.self.tasks = ap (λ l. length l) c.tasks-place-end.ensures.tasks ∙ ap (λ cells. length cells.tasks) c.self.view_is in
    c.loop-place.invariant.0 ∙ shown_whole (has c.args.seat.known) (values_of c.args.self.tasks) c.loop-place.place (omega arith)
