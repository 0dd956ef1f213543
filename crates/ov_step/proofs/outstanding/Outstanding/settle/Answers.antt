use Rattle.std.proofs.Common.{[], ◌∷◌}
use Rattle.ov_follow.specs.Passes.{questions, answers, takes, settlements}
use Rattle.ov_step.proofs.Parting.{passed_both, passed_some_first, passed_some_second}
use Rattle.ov_step.proofs.Results.{on_any_err, on_err, on_ok}
use Rattle.ov_step.proofs.outstanding.Outstanding.settle.Goals as goal

pub returns-in_err-ask-clause-part : goal.returns-in_err-ask-clause-part
returns-in_err-ask-clause-part c = on_any_err c.from_residual.result (passed_some_first (questions ∷ []) (answers ∷ takes ∷ settlements ∷ []) c.args.world.now c.ask.new.world c.in_err-ask.ensures.part)

pub returns-in_err-answer-clause-part : goal.returns-in_err-answer-clause-part
returns-in_err-answer-clause-part c = on_any_err c.from_residual-in_err-answer.result
    (passed_some_second (questions ∷ []) (answers ∷ takes ∷ settlements ∷ []) c.args.world.now c.ask.new.world c.answer.new.world c.ask.new.self c.in_ok-ask.ensures.done
    (passed_some_first (answers ∷ []) (takes ∷ settlements ∷ []) c.ask.new.world c.answer.new.world c.in_err-answer.ensures.part))

pub returns-in_err-take-clause-part : goal.returns-in_err-take-clause-part
returns-in_err-take-clause-part c = on_any_err c.from_residual-in_err-take.result
    (passed_some_second (questions ∷ []) (answers ∷ takes ∷ settlements ∷ []) c.args.world.now c.ask.new.world c.take.new.world c.ask.new.self c.in_ok-ask.ensures.done
    (passed_some_second (answers ∷ []) (takes ∷ settlements ∷ []) c.ask.new.world c.answer.new.world c.take.new.world c.answer.new.self c.in_ok-answer.ensures.done
    (passed_some_first (takes ∷ []) (settlements ∷ []) c.answer.new.world c.take.new.world c.in_err-take.ensures.part)))

pub returns-clause-done : goal.returns-clause-done
returns-clause-done c = on_ok c.settle_rounds.result (λ last.
    (passed_both (questions ∷ []) (answers ∷ takes ∷ settlements ∷ []) c.args.world.now c.ask.new.world c.settle_rounds.new.world c.ask.new.self c.settle_rounds.new.self c.in_ok-ask.ensures.done
    (passed_both (answers ∷ []) (takes ∷ settlements ∷ []) c.ask.new.world c.answer.new.world c.settle_rounds.new.world c.answer.new.self c.settle_rounds.new.self c.in_ok-answer.ensures.done
    (passed_both (takes ∷ []) (settlements ∷ []) c.answer.new.world c.take.new.world c.settle_rounds.new.world c.take.new.self c.settle_rounds.new.self c.in_ok-take.ensures.done last)))) c.settle_rounds.ensures.done

pub returns-clause-part : goal.returns-clause-part
returns-clause-part c = on_err c.settle_rounds.result (λ part.
    (passed_some_second (questions ∷ []) (answers ∷ takes ∷ settlements ∷ []) c.args.world.now c.ask.new.world c.settle_rounds.new.world c.ask.new.self c.in_ok-ask.ensures.done
    (passed_some_second (answers ∷ []) (takes ∷ settlements ∷ []) c.ask.new.world c.answer.new.world c.settle_rounds.new.world c.answer.new.self c.in_ok-answer.ensures.done
    (passed_some_second (takes ∷ []) (settlements ∷ []) c.answer.new.world c.take.new.world c.settle_rounds.new.world c.take.new.self c.in_ok-take.ensures.done
    part)))) c.settle_rounds.ensures.part
