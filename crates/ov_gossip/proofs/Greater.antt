-- The greater of two marks.
use Rattle.std.proofs.Common.{◌≡◌, ℕ, max, refl, arith}
use Rattle.ov_gossip.specs.Marks.{greater}
use Rattle.ov_gossip.specs.declared.marks.Marks.{Marks}

-- the greater of two marks either way round
pub greater_swap : (a b : Marks) → greater a b ≡ greater b a
greater_swap a b =
    let low : max a.low b.low ≡ max b.low a.low = omega arith in
    let full : max a.full b.full ≡ max b.full a.full = omega arith in
    let done : max a.done b.done ≡ max b.done a.done = omega arith in
    rw (low, full, done) refl
