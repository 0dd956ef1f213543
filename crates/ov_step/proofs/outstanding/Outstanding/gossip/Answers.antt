use Rattle.std.proofs.Common.{[], ◌∷◌}
use Rattle.ov_follow.specs.Passes.{publishes, hears}
use Rattle.ov_step.proofs.Parting.{passed_both, passed_some_first, passed_some_second}
use Rattle.ov_step.proofs.Results.{on_any_err, on_err, on_ok}
use Rattle.ov_step.proofs.outstanding.Outstanding.gossip.Goals as goal

pub returns-in_err-publish-clause-part : goal.returns-in_err-publish-clause-part
returns-in_err-publish-clause-part c = on_any_err c.from_residual.result (passed_some_first (publishes ∷ []) (hears ∷ publishes ∷ hears ∷ []) c.args.world.now c.publish.new.world c.in_err-publish.ensures.part)

pub returns-in_err-hear-clause-part : goal.returns-in_err-hear-clause-part
returns-in_err-hear-clause-part c = on_any_err c.from_residual-in_err-hear.result
    (passed_some_second (publishes ∷ []) (hears ∷ publishes ∷ hears ∷ []) c.args.world.now c.publish.new.world c.hear.new.world c.publish.new.self c.in_ok-publish.ensures.done
    (passed_some_first (hears ∷ []) (publishes ∷ hears ∷ []) c.publish.new.world c.hear.new.world c.in_err-hear.ensures.part))

pub returns-in_err-publish-2-clause-part : goal.returns-in_err-publish-2-clause-part
returns-in_err-publish-2-clause-part c = on_any_err c.from_residual-in_err-publish-2.result
    (passed_some_second (publishes ∷ []) (hears ∷ publishes ∷ hears ∷ []) c.args.world.now c.publish.new.world c.publish-2.new.world c.publish.new.self c.in_ok-publish.ensures.done
    (passed_some_second (hears ∷ []) (publishes ∷ hears ∷ []) c.publish.new.world c.hear.new.world c.publish-2.new.world c.hear.new.self c.in_ok-hear.ensures.done
    (passed_some_first (publishes ∷ []) (hears ∷ []) c.hear.new.world c.publish-2.new.world c.in_err-publish-2.ensures.part)))

pub returns-clause-done : goal.returns-clause-done
returns-clause-done c = on_ok c.hear-2.result (λ last.
    (passed_both (publishes ∷ []) (hears ∷ publishes ∷ hears ∷ []) c.args.world.now c.publish.new.world c.hear-2.new.world c.publish.new.self c.hear-2.new.self c.in_ok-publish.ensures.done
    (passed_both (hears ∷ []) (publishes ∷ hears ∷ []) c.publish.new.world c.hear.new.world c.hear-2.new.world c.hear.new.self c.hear-2.new.self c.in_ok-hear.ensures.done
    (passed_both (publishes ∷ []) (hears ∷ []) c.hear.new.world c.publish-2.new.world c.hear-2.new.world c.publish-2.new.self c.hear-2.new.self c.in_ok-publish-2.ensures.done last)))) c.hear-2.ensures.done

pub returns-clause-part : goal.returns-clause-part
returns-clause-part c = on_err c.hear-2.result (λ part.
    (passed_some_second (publishes ∷ []) (hears ∷ publishes ∷ hears ∷ []) c.args.world.now c.publish.new.world c.hear-2.new.world c.publish.new.self c.in_ok-publish.ensures.done
    (passed_some_second (hears ∷ []) (publishes ∷ hears ∷ []) c.publish.new.world c.hear.new.world c.hear-2.new.world c.hear.new.self c.in_ok-hear.ensures.done
    (passed_some_second (publishes ∷ []) (hears ∷ []) c.hear.new.world c.publish-2.new.world c.hear-2.new.world c.publish-2.new.self c.in_ok-publish-2.ensures.done
    part)))) c.hear-2.ensures.part
