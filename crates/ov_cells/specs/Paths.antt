-- Places that wait for one another while a place is being set.
use Rattle.std.specs.Prelude.{ℕ, zero, suc, ◌≡◌, ◌+◌, ◌<◌, true, false, List, [], ◌∷◌, if◌then◌else◌}
use Rattle.ov_cells.specs.Rules.{has}

-- places that fall, all of them below a bound, and none of them known
abbrev pub AreWaiting : List ℕ → ℕ → List ℕ → Type 0
AreWaiting known bound [] = Unit {0}
AreWaiting known bound (place ∷ others) = (place < bound) × (has known place ≡ false) × AreWaiting known place others

-- the stack while a place is being set: the place at its bottom, and above it what waits; empty once the place is known
abbrev pub IsPath : List ℕ → ℕ → List ℕ → Type 0
IsPath known place [] = has known place ≡ true
IsPath known place (bottom ∷ others) = (bottom ≡ place) × (has known place ≡ false) × AreWaiting known place others

-- how many of the places below a bound are not known
abbrev pub unknown_below : List ℕ → ℕ → ℕ
unknown_below known zero = 0
unknown_below known (suc bound) = (if has known bound then 0 else 1) + unknown_below known bound
