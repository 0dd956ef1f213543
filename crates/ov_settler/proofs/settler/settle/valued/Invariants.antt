use Rattle.std.proofs.Common.{◌≡◌, ◌++◌, length}
use Rattle.ov_settler.specs.Calls.{valued_tasks}
use Rattle.ov_settler.proofs.settler.settle.valued.Given as goal

abbrev pub invariant-loop-rest : goal.invariant-loop-rest
invariant-loop-rest l = l.all ++ valued_tasks l.rest l.left ≡ valued_tasks l.fn.tasks l.fn.values

abbrev pub decreases-loop-rest : goal.decreases-loop-rest
decreases-loop-rest l = length l.rest
