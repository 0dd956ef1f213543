-- Earlier histories: what stood before an entry was lawful, and an entry keeps its number.
use Rattle.std.proofs.Common.{◌≡◌, ◌==◌, ℕ, ◌+◌, ◌≤◌, Bool, true, false, Some, [], ◌∷◌, length, subst, arith}
use Rattle.std.specs.Prelude.{if◌then◌else◌}
use Rattle.std.proofs.lemmas.Grind.{common_steps}
use Rattle.ov_event.specs.declared.entry.Entry.{Entry}
use Rattle.ov_history.specs.Past.{History, at, before}
use Rattle.ov_history.specs.May.{Setting, May, Lawful}

-- each entry of a lawful history could follow what stood before it
pub lawful_at : (t : Setting) (h : History) (k : ℕ) (e : Entry) → Lawful t h → at h k ≡ Some e → May t (before k h) e
lawful_at t [] k e lawful there = cc
lawful_at t (new ∷ h) k e lawful there = by (k == length h + 1) there (lawful_at t h k e lawful.0)
  where
    by : (b : Bool) → (if b then Some new else at h k) ≡ Some e → (at h k ≡ Some e → May t (before k h) e) → May t (if b then h else before k h) e
    by true same rest = let is : new ≡ e = cc in subst (λ x. May t h x) is lawful.1
    by false same rest = rest same

-- what stood before an entry of a lawful history was lawful
pub lawful_before : (t : Setting) (h : History) (k : ℕ) → Lawful t h → Lawful t (before k h)
lawful_before t [] k lawful = lawful
lawful_before t (new ∷ h) k lawful = by (k == length h + 1) (lawful_before t h k lawful.0)
  where
    by : (b : Bool) → Lawful t (before k h) → Lawful t (if b then h else before k h)
    by true rest = lawful.0
    by false rest = rest

-- the number of an entry is at most the length
pub at_most : (h : History) (k : ℕ) (e : Entry) → at h k ≡ Some e → k ≤ length h
at_most [] k e there = cc
at_most (new ∷ h) k e there = grind (arith, at_most h k e)

-- an entry keeps its number where more follow
pub at_older : (h : History) (k : ℕ) (e new : Entry) → at h k ≡ Some e → at (new ∷ h) k ≡ Some e
at_older h k e new there = let within = at_most h k e there in grind (arith, common_steps)
