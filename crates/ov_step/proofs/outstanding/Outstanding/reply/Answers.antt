use Rattle.std.proofs.Common.{[], ◌∷◌}
use Rattle.ov_follow.specs.Passes.{results, replies_of}
use Rattle.ov_step.proofs.Parting.{passed_both, passed_some_first, passed_some_second}
use Rattle.ov_step.proofs.Results.{on_any_err, on_err, on_ok}
use Rattle.ov_step.proofs.outstanding.Outstanding.reply.Goals as goal

pub returns-in_err-compute-clause-part : goal.returns-in_err-compute-clause-part
returns-in_err-compute-clause-part c = on_any_err c.from_residual.result (passed_some_first (results ∷ []) (replies_of ∷ []) c.args.world.now c.compute.new.world c.in_err-compute.ensures.part)

pub returns-clause-done : goal.returns-clause-done
returns-clause-done c = on_ok c.take_results.result (λ last.
    (passed_both (results ∷ []) (replies_of ∷ []) c.args.world.now c.compute.new.world c.take_results.new.world c.compute.new.self c.take_results.new.self c.in_ok-compute.ensures.done last)) c.take_results.ensures.done

pub returns-clause-part : goal.returns-clause-part
returns-clause-part c = on_err c.take_results.result (λ part.
    (passed_some_second (results ∷ []) (replies_of ∷ []) c.args.world.now c.compute.new.world c.take_results.new.world c.compute.new.self c.in_ok-compute.ensures.done
    part)) c.take_results.ensures.part
