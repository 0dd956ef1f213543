use Rattle.std.proofs.Common.{◌≡◌, map}
use Rattle.std.specs.Prelude.{pos}
use Rattle.std.specs.List.{range_with_len}
use Rattle.ov_functor.specs.declared.part.Part.TheVariants.{Put}
use Rattle.ov_make.specs.Made.{key_name, opening_balance}
use Rattle.ov_make.proofs.line.puts.Given as goal

abbrev pub invariant-loop-key : goal.invariant-loop-key
invariant-loop-key l = l.parts ≡ map (λ k. Put (key_name k) (pos opening_balance)) (range_with_len 0 l.key)
