use Rattle.ov_step.specs.Followed.{Followed}
use Rattle.ov_step.proofs.Resulting.{computed_first}
use Rattle.ov_step.proofs.result.result_all.Given as goal

abbrev pub invariant-loop-want : goal.invariant-loop-want
invariant-loop-want l = Followed (computed_first l.fn.world l.wants l.want-index) l.fn.world l.world
