use Rattle.std.proofs.Common.{◌≡◌, map, replicate, false}
use Rattle.ov_window.proofs.harvest.unmarked.Given as goal

-- each row has the marks of no centre
abbrev pub invariant-loop : goal.invariant-loop
invariant-loop l = map (λ v. v.items) l.marks.items ≡ replicate l.counter (replicate l.centres false)
