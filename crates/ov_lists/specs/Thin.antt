-- Which of entries in order stay, told by each and the next.
use Rattle.std.specs.Prelude.{ℕ, zero, suc, Bool, true, false, not, ◌&&◌, ◌||◌, nat_le, List, [], ◌∷◌}
use Rattle.ov_lists.specs.Entries.{Entry, is_below}

-- whether the next of entries is not of the key of one and below the number
abbrev pub is_last : {T : Type 0} → ℕ → Entry T → List (Entry T) → Bool
is_last below e [] = true
is_last below e (f ∷ fs) = not (is_below e.key below f)

-- whether the entry at a place stays
abbrev pub stays_at : {T : Type 0} → ℕ → Bool → List (Entry T) → ℕ → Bool
stays_at below keep_last [] place = false
stays_at below keep_last (e ∷ es) zero = nat_le below e.version || (keep_last && is_last below e es)
stays_at below keep_last (e ∷ es) (suc place) = stays_at below keep_last es place
