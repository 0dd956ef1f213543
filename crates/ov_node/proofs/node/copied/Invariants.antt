use Rattle.std.proofs.Common.{◌≡◌, map, take}
use Rattle.ov_lists.specs.Entries.{shown}
use Rattle.ov_node.specs.Node.{item_of}
use Rattle.ov_node.proofs.node.copied.Given as goal

abbrev pub invariant-loop-one : goal.invariant-loop-one
invariant-loop-one l = l.items.items ≡ map item_of (map shown (take l.one-index l.found))
