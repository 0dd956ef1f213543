use Rattle.std.proofs.Common.{◌≡◌, map, take}
use Rattle.ov_functor.specs.Unions.{union}
use Rattle.ov_window.specs.Harvest.{joined}
use Rattle.ov_window.proofs.distinct.distinct_answers.Given as goal

-- the answers that are kept have the union of those so far
abbrev pub invariant-loop-answer : goal.invariant-loop-answer
invariant-loop-answer l = union (joined (map (λ one. one.now) l.kept.items)) ≡ union (joined (take l.answer-index l.answers))
