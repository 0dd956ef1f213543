use Rattle.std.proofs.Common.{◌-◌}
use Rattle.ov_step.proofs.Calming.{OnTheWay}
use Rattle.ov_step.proofs.calm_rounds.calm.Given as goal

abbrev pub invariant-loop : goal.invariant-loop
invariant-loop l = OnTheWay l.fn.world l.world l.kept (l.end - l.counter)
