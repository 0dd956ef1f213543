use Rattle.std.proofs.Common.{◌≡◌, ◌+◌, ◌*◌, ◌≤◌, drop}
use Rattle.ov_topology.specs.Shape.{byte_sum}
use Rattle.ov_topology.proofs.topology.sum_of_bytes.Given as goal

abbrev pub invariant-loop-byte : goal.invariant-loop-byte
invariant-loop-byte l = record { sum : l.sum + byte_sum (drop l.byte-index l.bytes) ≡ byte_sum l.bytes; small : l.sum ≤ l.byte-index * 255 }
