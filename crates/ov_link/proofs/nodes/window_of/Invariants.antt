use Rattle.std.proofs.Common.{◌≡◌, take}
use Rattle.ov_link.specs.Links.{in_window}
use Rattle.ov_link.proofs.nodes.window_of.Given as goal

abbrev pub invariant-loop-item : goal.invariant-loop-item
invariant-loop-item l = l.items.items ≡ in_window l.round (take l.item-index l.item-items)
