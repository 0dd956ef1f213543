use Rattle.std.proofs.Common.{◌≡◌, List, length, get_or, subst, sym, ap, arith}
use Rattle.ov_window.specs.declared.plan.Task.{Task}
use Rattle.ov_window.proofs.Evaluating.{values_more}
use Rattle.ov_window.proofs.evaluate.eval_all.Goals as goal

pub loop-task-preserved : goal.loop-task-preserved
loop-task-preserved c =
    let more = values_more c.args.plan.now c.loop-task.task-index c.task-item.result (omega (arith, c.loop-task-test.true, ap length c.tasks-task-items.ensures.tasks))
    (subst (λ (tasks : List Task). c.task-item.result ≡ get_or tasks c.loop-task.task-index c.task-item.result) c.tasks-task-items.ensures.tasks c.task-item.is) in
    rw (c.in_ok-push.ensures.items, c.apply.ensures, c.as_slice-in-loop-task-2.ensures.value, c.in_ok-gather.ensures, c.clear.ensures.items, c.as_slice-in-loop-task.ensures.value, c.as_slice.ensures, c.loop-task.invariant) (sym more)
