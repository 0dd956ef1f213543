use Rattle.std.proofs.Common.{◌≡◌, map, take}
use Rattle.ov_window.specs.Harvest.{joined}
use Rattle.ov_window.proofs.distinct.distinct_items.Given as goal

-- the items of the answers so far are there
abbrev pub invariant-loop-answer : goal.invariant-loop-answer
invariant-loop-answer l = map (λ one. one.now) l.items.items ≡ joined (map (λ one. one.now) (take l.answer-index l.answer-items))
