use Rattle.std.proofs.Common.{◌≡◌, ◌*◌, drop}
use Rattle.ov_functor.specs.Functor.{inputs_hold}
use Rattle.ov_functor.proofs.functor.moves_cover.Given as goal

abbrev pub invariant-loop-index : goal.invariant-loop-index
invariant-loop-index l = inputs_hold l.moves l.inputs ≡ inputs_hold (drop l.index l.moves) (drop (2 * l.index) l.inputs)
