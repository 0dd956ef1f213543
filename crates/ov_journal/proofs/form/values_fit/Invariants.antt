use Rattle.std.proofs.Common.{length}
use Rattle.std.specs.List.{AllByRecursion}
use Rattle.ov_journal.specs.Line.{IsValued}
use Rattle.ov_journal.proofs.form.values_fit.Given as goal

abbrev pub invariant-loop-rest : goal.invariant-loop-rest
invariant-loop-rest l = AllByRecursion IsValued l.rest → AllByRecursion IsValued l.values

abbrev pub decreases-loop-rest : goal.decreases-loop-rest
decreases-loop-rest l = length l.rest
