use Rattle.std.proofs.Common.{◌≡◌, ◌++◌, drop}
use Rattle.ov_functor.specs.Execution.{moves_of}
use Rattle.ov_functor.proofs.transaction.moves_after.Given as goal

abbrev pub invariant-loop-part : goal.invariant-loop-part
invariant-loop-part l = l.moves ++ moves_of (drop l.part-index l.parts) ≡ l.initial.moves ++ moves_of l.parts
