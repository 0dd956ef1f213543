-- Places that are known: one more, and those of two.
use Rattle.std.proofs.Common.{◌≡◌, ℕ, ◌⊎◌, ◌||◌, eqb, Bool, true, false, cond, List, [], ◌∷◌, sym, refl, ap, ◌∙◌, subst, inl, inr, eq-eqb, ne_eqb}
use Rattle.std.proofs.lemmas.Bool.{cases_Bool}
use mathlib.Core.Logic.{dite}
use native.Mathlib.Decide.{ℕ_discrete}
use Rattle.ov_cells.specs.Rules.{has, learn, merge}

-- ---- `or`

or_true : (b : Bool) → (b || true) ≡ true
or_true true = refl
or_true false = refl

or_false : (b : Bool) → (b || false) ≡ b
or_false true = refl
or_false false = refl

or_first : (a b : Bool) → a ≡ true → (a || b) ≡ true
or_first a b h = rw h refl

pub or_second : (a b : Bool) → b ≡ true → (a || b) ≡ true
or_second a b h = rw h (or_true a)

or_changed : (a b c : Bool) → (a || (b || c)) ≡ (b || (a || c))
or_changed true true c = refl
or_changed true false c = refl
or_changed false b c = refl

or_twice : (a b : Bool) → b ≡ true → a ≡ true → (a || b) ≡ b
or_twice a b h k = rw (h, k) refl

-- ---- one more place

-- the places that are known after one was learnt
pub has_learn : (known : List ℕ) (place other : ℕ) → has (learn known place) other ≡ (eqb place other || has known other)
has_learn known place other = elim (cases_Bool (has known place)) [
  | inl there ↦ rw there (sym (again (eqb place other) refl there))
  | inr none ↦ rw none refl
]
  where
    again : (b : Bool) → eqb place other ≡ b → has known place ≡ true → (b || has known other) ≡ has known other
    again true e h = sym (subst (λ (p : ℕ). has known p ≡ true) (same e) h)
      where
        same : eqb place other ≡ true → place ≡ other
        same e = dite (ℕ_discrete place other) (λ p. p) (λ ne. let n = ne_eqb place other ne in absurd cc)
    again false e h = refl

-- the place itself
pub learn_has : (known : List ℕ) (place : ℕ) → has (learn known place) place ≡ true
learn_has known place = has_learn known place place ∙ or_first (eqb place place) (has known place) (eq-eqb place place refl)

-- what was known
pub learn_keeps : (known : List ℕ) (place other : ℕ) → has known other ≡ true → has (learn known place) other ≡ true
learn_keeps known place other h = has_learn known place other ∙ or_second (eqb place other) (has known other) h

-- another place is known only if it was
pub learn_other : (known : List ℕ) (place other : ℕ) → (place ≡ other → ⊥) → has (learn known place) other ≡ has known other
learn_other known place other ne = has_learn known place other ∙ ap (λ b. b || has known other) (ne_eqb place other ne)

-- the place, or one that was known
pub learn_either : (known : List ℕ) (place other : ℕ) → has (learn known place) other ≡ true → (other ≡ place) ⊎ (has known other ≡ true)
learn_either known place other h = dite (ℕ_discrete place other) (λ e. inl (sym e)) (λ ne. inr (sym (learn_other known place other ne) ∙ h))

-- a place that is known is not learnt again
pub learn_known : (known : List ℕ) (place : ℕ) → has known place ≡ true → learn known place ≡ known
learn_known known place h = ap (λ b. cond b known (place ∷ known)) h

-- ---- the places of two

-- a place is known to both together exactly where it is to one of them
pub has_merge : (known places : List ℕ) (other : ℕ) → has (merge known places) other ≡ (has known other || has places other)
has_merge known [] other = sym (or_false (has known other))
has_merge known (place ∷ places) other =
    has_learn (merge known places) place other
    ∙ ap (λ b. eqb place other || b) (has_merge known places other)
    ∙ or_changed (eqb place other) (has known other) (has places other)

pub merge_left : (known places : List ℕ) (other : ℕ) → has known other ≡ true → has (merge known places) other ≡ true
merge_left known places other h = has_merge known places other ∙ or_first (has known other) (has places other) h

pub merge_right : (known places : List ℕ) (other : ℕ) → has places other ≡ true → has (merge known places) other ≡ true
merge_right known places other h = has_merge known places other ∙ or_second (has known other) (has places other) h

pub merge_either : (known places : List ℕ) (other : ℕ) → has (merge known places) other ≡ true → (has known other ≡ true) ⊎ (has places other ≡ true)
merge_either known places other h = elim (cases_Bool (has known other)) [
  | inl there ↦ inl there
  | inr none ↦ inr (ap (λ b. b || has places other) (sym none) ∙ (sym (has_merge known places other) ∙ h))
]
