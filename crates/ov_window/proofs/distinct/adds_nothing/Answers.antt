use Rattle.std.proofs.Common.{List, map, subst, arith}
use Rattle.std.proofs.lemmas.Grind.{common_steps}
use Rattle.std.proofs.lemmas.List.{nil_from_length}
use Rattle.ov_functor.specs.Windows.{Among}
use Rattle.ov_functor.specs.declared.item.Item.{Item}
use Rattle.ov_window.proofs.Gathering.{among_shown, empty_adds, repeat_adds}
use Rattle.ov_window.proofs.distinct.adds_nothing.Goals as goal

pub returns-then-is_empty : goal.returns-then-is_empty
returns-then-is_empty c is_true = empty_adds (map (λ one. one.now) c.args.kept.now) c.args.answer.now (nil_from_length c.args.answer.now (grind (arith, common_steps)))

pub returns-then-same : goal.returns-then-same
returns-then-same c is_true =
    repeat_adds (map (λ one. one.now) c.args.kept.now) c.args.answer.now
    (subst (λ (one : List Item). Among one (map (λ one. one.now) c.args.kept.now)) (c.same.ensures.0 c.if-same.true)
    (among_shown (λ one. one.now) c.args.kept.now c.loop-other.other-index c.other-item.result c.loop-other-test.true c.other-item.is))
