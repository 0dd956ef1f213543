use Rattle.std.proofs.Common.{◌≡◌, true, take}
use Rattle.std.specs.List.{All}
use Rattle.ov_functor.specs.Transaction.{is_positive}
use Rattle.ov_functor.specs.Words.{IsPart}
use Rattle.ov_script.proofs.line.parts_fit.Given as goal

abbrev pub invariant-loop-part : goal.invariant-loop-part
invariant-loop-part l = All (λ part. is_positive part ≡ true → IsPart part) (take l.part-index l.parts)
