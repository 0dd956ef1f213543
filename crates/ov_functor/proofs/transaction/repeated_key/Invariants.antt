use Rattle.std.proofs.Common.{◌≡◌, [], take, drop}
use Rattle.ov_functor.specs.Transaction.{repeated_from}
use Rattle.ov_functor.proofs.transaction.repeated_key.Given as goal

abbrev pub invariant-loop-index : goal.invariant-loop-index
invariant-loop-index l = repeated_from [] l.parts ≡ repeated_from (take l.index l.parts) (drop l.index l.parts)
