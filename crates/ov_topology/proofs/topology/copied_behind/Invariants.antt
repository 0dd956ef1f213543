use Rattle.std.proofs.Common.{◌≡◌, ◌++◌, take}
use Rattle.ov_topology.proofs.topology.copied_behind.Given as goal

abbrev pub invariant-loop-number : goal.invariant-loop-number
invariant-loop-number l = l.copied ≡ l.initial.copied ++ take l.number-index l.numbers
