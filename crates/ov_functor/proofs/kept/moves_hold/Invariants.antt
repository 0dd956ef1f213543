use Rattle.std.proofs.Common.{◌≡◌, drop}
use Rattle.ov_functor.specs.Execution.{hold, moves_of}
use Rattle.ov_functor.proofs.kept.moves_hold.Given as goal

abbrev pub invariant-loop-part : goal.invariant-loop-part
invariant-loop-part g l = hold (g.L.Lookup.map l.values) (moves_of l.parts) ≡ hold (g.L.Lookup.map l.values) (moves_of (drop l.part-index l.parts))
