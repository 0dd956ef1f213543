use Rattle.std.proofs.Common.{◌≡◌, ◌++◌, ◌==◌, length, map}
use Rattle.std.specs.List.{slice_split}
use Rattle.ov_base.proofs.split.parts_at.Given as goal

-- the parts so far and those of the rest are all parts
abbrev pub invariant-loop-part : goal.invariant-loop-part
invariant-loop-part l = map (λ x. x.now) l.parts.items ++ slice_split (λ b. b == l.fn.byte) l.rest ≡ slice_split (λ b. b == l.fn.byte) l.fn.text

abbrev pub decreases-loop-part : goal.decreases-loop-part
decreases-loop-part l = length l.rest
