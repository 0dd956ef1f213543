use Rattle.ov_window.proofs.distinct.adds_nothing.Given as goal

-- what was compared does not matter later
abbrev pub invariant-loop-other : goal.invariant-loop-other
invariant-loop-other l = Unit {0}
