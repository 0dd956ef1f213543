use Rattle.std.proofs.Common.{◌≡◌, take}
use Rattle.ov_node.proofs.held.all_incoming.Given as goal

abbrev pub invariant-loop-place : goal.invariant-loop-place
invariant-loop-place l = l.all.items ≡ take l.place l.fn.items
