use Rattle.std.proofs.Common.{◌≡◌, drop}
use Rattle.ov_functor.specs.Form.{are_apart}
use Rattle.ov_functor.proofs.functor.are_distinct.Given as goal

abbrev pub invariant-loop-index : goal.invariant-loop-index
invariant-loop-index l = are_apart l.moves ≡ are_apart (drop l.index l.moves)
