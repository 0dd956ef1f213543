-- Numbers below a number: whether one or all pass, which of them pass, and the least of what is said of them.
use Rattle.std.proofs.Common.{zero, suc}
use Rattle.std.specs.Prelude.{ℕ, min, Bool, true, false, ◌&&◌, ◌||◌, List, [], ◌∷◌, ◌++◌}
use Rattle.ov_topology.specs.Shape.{Shape, votes_of}

-- whether some number below passes
abbrev pub any_below : (ℕ → Bool) → ℕ → Bool
any_below f zero = false
any_below f (suc n) = f n || any_below f n

-- whether all numbers below pass
abbrev pub all_below : (ℕ → Bool) → ℕ → Bool
all_below f zero = true
all_below f (suc n) = f n && all_below f n

-- for each number below, upwards, whether it passes
abbrev pub passing : (ℕ → Bool) → ℕ → List Bool
passing f zero = []
passing f (suc n) = passing f n ++ f n ∷ []

-- the votes of the centres that pass
abbrev pub weight : Shape → (ℕ → Bool) → ℕ
weight t f = votes_of t (passing f t.centres)

-- the least of a number and of what f says of the numbers below
abbrev pub least_of : (ℕ → ℕ) → ℕ → ℕ → ℕ
least_of f number zero = number
least_of f number (suc n) = min (f n) (least_of f number n)
