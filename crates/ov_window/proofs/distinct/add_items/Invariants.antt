use Rattle.std.proofs.Common.{◌≡◌, ◌++◌, map, take}
use Rattle.ov_window.proofs.distinct.add_items.Given as goal

-- a reference to each item so far is there
abbrev pub invariant-loop-item : goal.invariant-loop-item
invariant-loop-item l = map (λ one. one.now) l.found.items ≡ map (λ one. one.now) l.fn.found.items ++ take l.item-index l.items
