-- The versions that a gateway has drawn, in the order in which it drew them.
use Rattle.std.specs.Prelude.{◌≡◌, ◌≢◌, ℕ, suc, ◌<◌, min, ◌==◌, nat_lt, Option, Some, None, List, [], ◌∷◌, slice_get, if◌then◌else◌}
use Rattle.std.specs.List.{AllByRecursion}
use Rattle.ov_gate.specs.Tracked.{lacks}
use Rattle.ov_gate.specs.declared.tracked.Mark.{Mark}
use Rattle.ov_gate.specs.declared.tracked.Mark.TheVariants.{Low, Full, Done}
use Rattle.ov_gate.specs.declared.tracked.Tracked.{Tracked}

-- Each is earlier than all that follow.
abbrev pub Rises : List Tracked → Type 0
Rises [] = Unit {0}
Rises (one ∷ ones) = AllByRecursion (λ (other : Tracked). one.version < other.version) ones × Rises ones

-- the place of the first that holds a mark down
abbrev pub first_held : Mark → List Tracked → ℕ
first_held mark [] = 0
first_held mark (one ∷ ones) = if lacks mark one then 0 else suc (first_held mark ones)

-- The numbers are the places of the first that holds each mark down.
pub record ArePlaces (items : List Tracked) (low full done : ℕ) : Type 0 where
  pub low_is : low ≡ first_held Low items
  pub full_is : full ≡ first_held Full items
  pub done_is : done ≡ first_held Done items

-- the least of a number and of the versions that hold a mark down
abbrev pub least_held : Mark → ℕ → List Tracked → ℕ
least_held mark top [] = top
least_held mark top (one ∷ ones) = if lacks mark one then min one.version (least_held mark top ones) else least_held mark top ones

-- a change to the one of this version
abbrev pub at_version : ℕ → (Tracked → Tracked) → Tracked → Tracked
at_version version change one = if one.version == version then change one else one

-- how many at the front are earlier than a version
abbrev pub earlier : ℕ → List Tracked → ℕ
earlier version [] = 0
earlier version (one ∷ ones) = if nat_lt one.version version then suc (earlier version ones) else 0

-- The place is that of a version; or there is none, and the version is not there.
abbrev pub IsPlace : ℕ → List Tracked → Option ℕ → Type 0
IsPlace version items (Some place) = (one : Tracked) → slice_get items place ≡ Some one → one.version ≡ version
IsPlace version items None = AllByRecursion (λ (one : Tracked). one.version ≢ version) items
