use Rattle.std.proofs.Common.{◌≡◌, take}
use Rattle.ov_window.specs.Evaluation.{values_of}
use Rattle.ov_window.proofs.evaluate.eval_all.Given as goal

abbrev pub invariant-loop-task : goal.invariant-loop-task
invariant-loop-task l = l.values.items ≡ values_of (take l.task-index l.plan)
