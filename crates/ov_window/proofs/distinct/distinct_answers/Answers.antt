use Rattle.std.proofs.Common.{◌≡◌, ◌+◌, List, [], ◌∷◌, ◌++◌, IsTrue, map, take, ap, sym, subst, ◌∙◌, arith}
use Rattle.std.specs.Borrow.{Bor}
use Rattle.std.proofs.lemmas.Grind.{common_steps}
use Rattle.std.proofs.lemmas.List.{map_push, take_more}
use Rattle.ov_functor.specs.Unions.{union}
use Rattle.ov_functor.specs.declared.item.Item.{Item}
use Rattle.ov_window.specs.Harvest.{joined}
use Rattle.ov_window.proofs.Gathering.{joined_more, union_next}
use Rattle.ov_window.proofs.distinct.distinct_answers.Goals as goal
use Rattle.ov_window.proofs.distinct.distinct_answers.Goals.{then-not-adds_nothing+in_ok-push, else-not-adds_nothing}

pub loop-answer-preserved : goal.loop-answer-preserved
loop-answer-preserved c =
    let kept : List (List Item) = map (λ one. one.now) c.loop-answer.kept.items in
    let more : take (c.loop-answer.answer-index + 1) c.args.answers.now ≡ take c.loop-answer.answer-index c.args.answers.now ++ c.answer-item.result ∷ [] =
    take_more c.args.answers.now c.loop-answer.answer-index c.answer-item.result c.loop-answer-test.true ∙ ap (λ (one : List Item). take c.loop-answer.answer-index c.args.answers.now ++ one ∷ []) (sym c.answer-item.is) in
    let next : union (joined kept ++ c.answer-item.result) ≡ union (joined (take (c.loop-answer.answer-index + 1) c.args.answers.now)) =
    union_next kept (take c.loop-answer.answer-index c.args.answers.now) c.answer-item.result c.loop-answer.invariant ∙ ap (λ (answers : List (List Item)). union (joined answers)) (sym more) in
    elim c.if-not-adds_nothing.branch [
      | then-not-adds_nothing+in_ok-push w ↦
          rw (w.kept-is, w.in_ok-push.ensures.items, map_push (λ (one : Bor (List Item)). one.now) c.loop-answer.kept.items _, joined_more kept c.answer-item.result) next
      | else-not-adds_nothing w ↦
          let adds : IsTrue c.adds_nothing.result = grind (arith, common_steps) in
          rw w.kept-is (sym (subst (λ (refs : List (Bor (List Item))). union (joined (map (λ one. one.now) refs) ++ c.answer-item.result) ≡ union (joined (map (λ one. one.now) refs))) c.as_slice.ensures.value (c.adds_nothing.ensures adds)) ∙ next)
    ]
