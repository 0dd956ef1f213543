use Rattle.std.proofs.Common.{[], ◌∷◌}
use Rattle.ov_follow.specs.Passes.{tolds, begins, writes, acks}
use Rattle.ov_step.proofs.Parting.{passed_both, passed_some_first, passed_some_second}
use Rattle.ov_step.proofs.Results.{on_any_err, on_err, on_ok}
use Rattle.ov_step.proofs.outstanding.Outstanding.write.Goals as goal

pub returns-in_err-tell-clause-part : goal.returns-in_err-tell-clause-part
returns-in_err-tell-clause-part c = on_any_err c.from_residual.result (passed_some_first (tolds ∷ []) (begins ∷ writes ∷ acks ∷ []) c.args.world.now c.tell.new.world c.in_err-tell.ensures.part)

pub returns-in_err-begin-clause-part : goal.returns-in_err-begin-clause-part
returns-in_err-begin-clause-part c = on_any_err c.from_residual-in_err-begin.result
    (passed_some_second (tolds ∷ []) (begins ∷ writes ∷ acks ∷ []) c.args.world.now c.tell.new.world c.begin.new.world c.tell.new.self c.in_ok-tell.ensures.done
    (passed_some_first (begins ∷ []) (writes ∷ acks ∷ []) c.tell.new.world c.begin.new.world c.in_err-begin.ensures.part))

pub returns-in_err-store-clause-part : goal.returns-in_err-store-clause-part
returns-in_err-store-clause-part c = on_any_err c.from_residual-in_err-store.result
    (passed_some_second (tolds ∷ []) (begins ∷ writes ∷ acks ∷ []) c.args.world.now c.tell.new.world c.store.new.world c.tell.new.self c.in_ok-tell.ensures.done
    (passed_some_second (begins ∷ []) (writes ∷ acks ∷ []) c.tell.new.world c.begin.new.world c.store.new.world c.begin.new.self c.in_ok-begin.ensures.done
    (passed_some_first (writes ∷ []) (acks ∷ []) c.begin.new.world c.store.new.world c.in_err-store.ensures.part)))

pub returns-clause-done : goal.returns-clause-done
returns-clause-done c = on_ok c.acknowledge.result (λ last.
    (passed_both (tolds ∷ []) (begins ∷ writes ∷ acks ∷ []) c.args.world.now c.tell.new.world c.acknowledge.new.world c.tell.new.self c.acknowledge.new.self c.in_ok-tell.ensures.done
    (passed_both (begins ∷ []) (writes ∷ acks ∷ []) c.tell.new.world c.begin.new.world c.acknowledge.new.world c.begin.new.self c.acknowledge.new.self c.in_ok-begin.ensures.done
    (passed_both (writes ∷ []) (acks ∷ []) c.begin.new.world c.store.new.world c.acknowledge.new.world c.store.new.self c.acknowledge.new.self c.in_ok-store.ensures.done last)))) c.acknowledge.ensures.done

pub returns-clause-part : goal.returns-clause-part
returns-clause-part c = on_err c.acknowledge.result (λ part.
    (passed_some_second (tolds ∷ []) (begins ∷ writes ∷ acks ∷ []) c.args.world.now c.tell.new.world c.acknowledge.new.world c.tell.new.self c.in_ok-tell.ensures.done
    (passed_some_second (begins ∷ []) (writes ∷ acks ∷ []) c.tell.new.world c.begin.new.world c.acknowledge.new.world c.begin.new.self c.in_ok-begin.ensures.done
    (passed_some_second (writes ∷ []) (acks ∷ []) c.begin.new.world c.store.new.world c.acknowledge.new.world c.store.new.self c.in_ok-store.ensures.done
    part)))) c.acknowledge.ensures.part
