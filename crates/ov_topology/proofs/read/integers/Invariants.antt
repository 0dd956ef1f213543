use Rattle.std.proofs.Common.{◌≡◌, drop}
use Rattle.ov_base.specs.Split.{all_of, with_front}
use Rattle.ov_topology.specs.Read.{integer_at}
use Rattle.ov_topology.proofs.read.integers.Given as goal

abbrev pub invariant-loop-value : goal.invariant-loop-value
invariant-loop-value l = with_front l.numbers.items (all_of integer_at (drop l.value-index l.values)) ≡ all_of integer_at l.values
