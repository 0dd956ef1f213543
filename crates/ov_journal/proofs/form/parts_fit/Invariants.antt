use Rattle.std.proofs.Common.{◌≡◌, true, length}
use Rattle.std.specs.List.{AllByRecursion, list_all}
use Rattle.ov_functor.specs.Transaction.{is_positive}
use Rattle.ov_functor.specs.Words.{IsPart}
use Rattle.ov_journal.proofs.form.parts_fit.Given as goal

abbrev pub invariant-loop-rest : goal.invariant-loop-rest
invariant-loop-rest l = record {
  positive : list_all is_positive l.rest ≡ true;
  each : AllByRecursion IsPart l.rest → AllByRecursion IsPart l.parts;
}

abbrev pub decreases-loop-rest : goal.decreases-loop-rest
decreases-loop-rest l = length l.rest
