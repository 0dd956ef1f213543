use Rattle.std.proofs.Common.{◌≡◌, ◌*◌, drop}
use Rattle.ov_functor.specs.Functor.{input_at}
use Rattle.ov_functor.proofs.functor.input_of.Given as goal

abbrev pub invariant-loop-index : goal.invariant-loop-index
invariant-loop-index l = input_at l.key l.moves l.inputs ≡ input_at l.key (drop l.index l.moves) (drop (2 * l.index) l.inputs)
