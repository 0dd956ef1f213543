use Rattle.std.proofs.Common.{take, drop, sym, ◌∙◌}
use Rattle.std.proofs.lemmas.List.{take-append-drop}
use Rattle.ov_step.proofs.Driving.{driven_next}
use Rattle.ov_step.proofs.schedule.drive.Goals as goal

pub returns-in-Err-clause-part : goal.returns-in-Err-clause-part
returns-in-Err-clause-part c = record {
  done = take c.loop-step.step-index c.args.schedule.now;
  rest = drop c.loop-step.step-index c.args.schedule.now;
  split = sym (take-append-drop c.loop-step.step-index c.args.schedule.now);
  driven = c.in-Err.ensures.err ∙ c.loop-step.invariant;
}

pub loop-step-preserved : goal.loop-step-preserved
loop-step-preserved c =
    driven_next c.args.schedule.now c.loop-step.step-index c.step-item.result c.args.world.now c.loop-step.world c.follow.new.self
    (rw c.steps-step-items.ensures.steps at c.loop-step-test.true) (rw c.steps-step-items.ensures.steps at c.step-item.is) c.loop-step.invariant c.in-Ok.ensures.follow
