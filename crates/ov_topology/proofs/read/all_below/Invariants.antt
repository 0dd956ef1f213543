use Rattle.std.proofs.Common.{◌≡◌, drop}
use Rattle.ov_base.specs.Split.{all_of, with_front}
use Rattle.ov_topology.specs.Read.{below}
use Rattle.ov_topology.proofs.read.all_below.Given as goal

abbrev pub invariant-loop-number : goal.invariant-loop-number
invariant-loop-number l = with_front l.found.items (all_of (below l.limit) (drop l.number-index l.numbers)) ≡ all_of (below l.limit) l.numbers
