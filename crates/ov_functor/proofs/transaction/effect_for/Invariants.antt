use Rattle.std.proofs.Common.{◌≡◌, drop}
use Rattle.ov_functor.specs.Functor.{effect_of}
use Rattle.ov_functor.proofs.transaction.effect_for.Given as goal

abbrev pub invariant-loop-part : goal.invariant-loop-part
invariant-loop-part l = effect_of l.key l.parts ≡ effect_of l.key (drop l.part-index l.parts)
