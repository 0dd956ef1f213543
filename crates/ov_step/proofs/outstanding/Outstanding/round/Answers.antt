use Rattle.std.proofs.Common.{[], ◌∷◌}
use Rattle.ov_follow.specs.Passes.{tolds, begins, writes, acks, publishes, hears, questions, answers, takes, settlements, results, replies_of}
use Rattle.ov_step.proofs.Parting.{passed_both, passed_some_first, passed_some_second}
use Rattle.ov_step.proofs.Results.{on_any_err, on_err, on_ok}
use Rattle.ov_step.proofs.outstanding.Outstanding.round.Goals as goal

pub returns-in_err-write-clause-part : goal.returns-in_err-write-clause-part
returns-in_err-write-clause-part c = on_any_err c.from_residual.result (passed_some_first (tolds ∷ begins ∷ writes ∷ acks ∷ []) (publishes ∷ hears ∷ publishes ∷ hears ∷ questions ∷ answers ∷ takes ∷ settlements ∷ results ∷ replies_of ∷ []) c.args.world.now c.write.new.world c.in_err-write.ensures.part)

pub returns-in_err-gossip-clause-part : goal.returns-in_err-gossip-clause-part
returns-in_err-gossip-clause-part c = on_any_err c.from_residual-in_err-gossip.result
    (passed_some_second (tolds ∷ begins ∷ writes ∷ acks ∷ []) (publishes ∷ hears ∷ publishes ∷ hears ∷ questions ∷ answers ∷ takes ∷ settlements ∷ results ∷ replies_of ∷ []) c.args.world.now c.write.new.world c.gossip.new.world c.write.new.self c.in_ok-write.ensures.done
    (passed_some_first (publishes ∷ hears ∷ publishes ∷ hears ∷ []) (questions ∷ answers ∷ takes ∷ settlements ∷ results ∷ replies_of ∷ []) c.write.new.world c.gossip.new.world c.in_err-gossip.ensures.part))

pub returns-in_err-settle-clause-part : goal.returns-in_err-settle-clause-part
returns-in_err-settle-clause-part c = on_any_err c.from_residual-in_err-settle.result
    (passed_some_second (tolds ∷ begins ∷ writes ∷ acks ∷ []) (publishes ∷ hears ∷ publishes ∷ hears ∷ questions ∷ answers ∷ takes ∷ settlements ∷ results ∷ replies_of ∷ []) c.args.world.now c.write.new.world c.settle.new.world c.write.new.self c.in_ok-write.ensures.done
    (passed_some_second (publishes ∷ hears ∷ publishes ∷ hears ∷ []) (questions ∷ answers ∷ takes ∷ settlements ∷ results ∷ replies_of ∷ []) c.write.new.world c.gossip.new.world c.settle.new.world c.gossip.new.self c.in_ok-gossip.ensures.done
    (passed_some_first (questions ∷ answers ∷ takes ∷ settlements ∷ []) (results ∷ replies_of ∷ []) c.gossip.new.world c.settle.new.world c.in_err-settle.ensures.part)))

pub returns-clause-done : goal.returns-clause-done
returns-clause-done c = on_ok c.reply.result (λ last.
    (passed_both (tolds ∷ begins ∷ writes ∷ acks ∷ []) (publishes ∷ hears ∷ publishes ∷ hears ∷ questions ∷ answers ∷ takes ∷ settlements ∷ results ∷ replies_of ∷ []) c.args.world.now c.write.new.world c.reply.new.world c.write.new.self c.reply.new.self c.in_ok-write.ensures.done
    (passed_both (publishes ∷ hears ∷ publishes ∷ hears ∷ []) (questions ∷ answers ∷ takes ∷ settlements ∷ results ∷ replies_of ∷ []) c.write.new.world c.gossip.new.world c.reply.new.world c.gossip.new.self c.reply.new.self c.in_ok-gossip.ensures.done
    (passed_both (questions ∷ answers ∷ takes ∷ settlements ∷ []) (results ∷ replies_of ∷ []) c.gossip.new.world c.settle.new.world c.reply.new.world c.settle.new.self c.reply.new.self c.in_ok-settle.ensures.done last)))) c.reply.ensures.done

pub returns-clause-part : goal.returns-clause-part
returns-clause-part c = on_err c.reply.result (λ part.
    (passed_some_second (tolds ∷ begins ∷ writes ∷ acks ∷ []) (publishes ∷ hears ∷ publishes ∷ hears ∷ questions ∷ answers ∷ takes ∷ settlements ∷ results ∷ replies_of ∷ []) c.args.world.now c.write.new.world c.reply.new.world c.write.new.self c.in_ok-write.ensures.done
    (passed_some_second (publishes ∷ hears ∷ publishes ∷ hears ∷ []) (questions ∷ answers ∷ takes ∷ settlements ∷ results ∷ replies_of ∷ []) c.write.new.world c.gossip.new.world c.reply.new.world c.gossip.new.self c.in_ok-gossip.ensures.done
    (passed_some_second (questions ∷ answers ∷ takes ∷ settlements ∷ []) (results ∷ replies_of ∷ []) c.gossip.new.world c.settle.new.world c.reply.new.world c.settle.new.self c.in_ok-settle.ensures.done
    part)))) c.reply.ensures.part
