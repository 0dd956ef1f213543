use Rattle.std.proofs.Common.{◌≡◌, map}
use Rattle.std.specs.List.{range_with_len}
use Rattle.ov_functor.specs.declared.part.Part.TheVariants.{Get}
use Rattle.ov_make.specs.Made.{key_name}
use Rattle.ov_make.proofs.line.gets.Given as goal

abbrev pub invariant-loop-key : goal.invariant-loop-key
invariant-loop-key l = l.parts ≡ map (λ k. Get (key_name k)) (range_with_len 0 l.key)
