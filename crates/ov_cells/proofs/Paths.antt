-- Places that wait for one another.
use Rattle.std.proofs.Common.{◌≡◌, ℕ, zero, suc, ◌+◌, ◌-◌, ◌*◌, ◌<◌, ◌≤◌, true, false, List, [], ◌∷◌, ◌++◌, length, subst, sym, inl, inr, arith}
use Rattle.std.proofs.lemmas.Bool.{cases_Bool}
use mathlib.Core.Logic.{dite}
use native.Mathlib.Decide.{ℕ_discrete}
use Rattle.ov_cells.specs.Paths.{AreWaiting, IsPath, unknown_below}
use Rattle.ov_cells.specs.Rules.{has}
use Rattle.ov_cells.specs.Seats.{SeenSeat, HasLearnt, Knows}
use Rattle.ov_cells.proofs.Seen.{still_unknown}

-- ---- how many wait

waiting_few : (known : List ℕ) (bound : ℕ) (items : List ℕ) → AreWaiting known bound items → length items ≤ bound
waiting_few known bound [] h = omega arith
waiting_few known bound (place ∷ others) h = let few = waiting_few known place others h.2 in let less = h.0 in omega arith

-- no more places wait than there are up to the one at the bottom
pub path_few : (known : List ℕ) (place : ℕ) (items : List ℕ) → IsPath known place items → length items ≤ place + 1
path_few known place [] h = omega arith
path_few known place (bottom ∷ others) h = let few = waiting_few known place others h.2 in omega arith

-- ---- the next one

waiting_next : (known : List ℕ) (bound : ℕ) (front : List ℕ) (next : ℕ) → AreWaiting known bound (front ++ next ∷ []) → (next < bound) × (has known next ≡ false)
waiting_next known bound [] next h = (h.0, h.1)
waiting_next known bound (place ∷ front) next h = let rest = waiting_next known place front next h.2 in let less = h.0 in let under = rest.0 in (omega arith, rest.1)

-- the one on top is at or below the bottom, and is not known
pub path_next : (known : List ℕ) (place : ℕ) (front : List ℕ) (next : ℕ) → IsPath known place (front ++ next ∷ []) → (next ≤ place) × (has known next ≡ false)
path_next known place [] next h = let e = h.0 in (omega arith, subst (λ (z : ℕ). has known z ≡ false) (sym h.0) h.1)
path_next known place (bottom ∷ front) next h = let rest = waiting_next known place front next h.2 in let under = rest.0 in (omega arith, rest.1)

module _ (known later : List ℕ) (next : ℕ) (stays : (place : ℕ) → next < place → has known place ≡ false → has later place ≡ false) where
  -- ---- the next one is set: it goes

  waiting_done : (bound : ℕ) (front : List ℕ) → AreWaiting known bound (front ++ next ∷ []) → AreWaiting later bound front
  waiting_done bound [] h = tt
  waiting_done bound (place ∷ front) h = let rest = waiting_next known place front next h.2 in (h.0, stays place rest.0 h.1, waiting_done place front h.2)

  pub path_done : (place : ℕ) (front : List ℕ) → IsPath known place (front ++ next ∷ []) → has later next ≡ true → IsPath later place front
  path_done place [] h set = subst (λ (z : ℕ). has later z ≡ true) h.0 set
  path_done place (bottom ∷ front) h set = let rest = waiting_next known place front next h.2 in (h.0, stays place rest.0 h.1, waiting_done place front h.2)

  -- ---- the next one waits for another

  waiting_more : (bound : ℕ) (front : List ℕ) (needed : ℕ) → AreWaiting known bound (front ++ next ∷ []) → has later next ≡ false → needed < next → has later needed ≡ false
      → AreWaiting later bound ((front ++ next ∷ []) ++ needed ∷ [])
  waiting_more bound [] needed h unset less open_one = (h.0, unset, (less, open_one, tt))
  waiting_more bound (place ∷ front) needed h unset less open_one =
      let rest = waiting_next known place front next h.2 in (h.0, stays place rest.0 h.1, waiting_more place front needed h.2 unset less open_one)

  pub path_more : (place : ℕ) (front : List ℕ) (needed : ℕ) → IsPath known place (front ++ next ∷ []) → has later next ≡ false → needed < next → has later needed ≡ false
      → IsPath later place ((front ++ next ∷ []) ++ needed ∷ [])
  path_more place [] needed h unset less open_one =
      let e = h.0 in (h.0, subst (λ (z : ℕ). has later z ≡ false) h.0 unset, (omega arith, open_one, tt))
  path_more place (bottom ∷ front) needed h unset less open_one =
      let rest = waiting_next known place front next h.2 in (h.0, stays place rest.0 h.1, waiting_more place front needed h.2 unset less open_one)

-- ---- how many places are not known

module _ (known later : List ℕ) (more : (place : ℕ) → has known place ≡ true → has later place ≡ true) where
  -- who knows more has no more left
  pub unknown_less : (bound : ℕ) → unknown_below later bound ≤ unknown_below known bound
  unknown_less zero = omega arith
  unknown_less (suc bound) =
      let rest = unknown_less bound in elim (cases_Bool (has known bound)) [
        | inl there ↦ rw (there, more bound there) (omega arith)
        | inr isnt ↦ rw isnt (elim (cases_Bool (has later bound)) [
          | inl now ↦ rw now (omega arith)
          | inr still ↦ rw still (omega arith)
        ])
      ]

  -- who knows one more has fewer left
  pub unknown_fewer : (bound place : ℕ) → place < bound → has known place ≡ false → has later place ≡ true → unknown_below later bound < unknown_below known bound
  unknown_fewer zero place less isnt now = absurd (omega arith)
  unknown_fewer (suc bound) place less isnt now = dite (ℕ_discrete place bound)
      (λ e. let here : has known bound ≡ false = subst (λ (z : ℕ). has known z ≡ false) e isnt in let after : has later bound ≡ true = subst (λ (z : ℕ). has later z ≡ true) e now in
      let rest = unknown_less bound in rw (here, after) (omega arith))
      (λ ne. let rest = unknown_fewer bound place (omega arith) isnt now in elim (cases_Bool (has known bound)) [
        | inl there ↦ rw (there, more bound there) (omega arith)
        | inr open_one ↦ rw open_one (elim (cases_Bool (has later bound)) [
          | inl set ↦ rw set (omega arith)
          | inr still ↦ rw still (omega arith)
        ])
      ])

-- ---- turns

-- a turn that set the next place takes it from the stack
pub shorter : (before after : SeenSeat) (place : ℕ) (front : List ℕ) (next : ℕ) → HasLearnt (next + 1) before after → IsPath before.known place (front ++ next ∷ []) → Knows after next → IsPath after.known place front
shorter before after place front next learnt path known =
    path_done before.known after.known next (λ other above isnt. still_unknown (next + 1) before after other learnt (omega arith) isnt) place front path known

-- a turn that found an input unset puts it onto the stack
pub longer : (before after : SeenSeat) (place : ℕ) (front : List ℕ) (next needed : ℕ) → HasLearnt (next + 1) before after → IsPath before.known place (front ++ next ∷ [])
    → (needed < next) × (has after.known needed ≡ false) × (has after.known next ≡ false) → IsPath after.known place ((front ++ next ∷ []) ++ needed ∷ [])
longer before after place front next needed learnt path waits =
    path_more before.known after.known next (λ other above isnt. still_unknown (next + 1) before after other learnt (omega arith) isnt) place front needed path waits.2 waits.0 waits.1

-- either makes the measure fall, which is twice the places left and the room left on the stack
pub falls_done : (left less room waiting rest : ℕ) → less < left → rest + 1 ≡ waiting → waiting ≤ room → 2 * less + room - rest < 2 * left + room - waiting
falls_done left less room waiting rest fewer one few = omega arith

pub falls_more : (left less room waiting rest : ℕ) → less ≤ left → rest ≡ waiting + 1 → rest ≤ room → 2 * less + room - rest < 2 * left + room - waiting
falls_more left less room waiting rest fewer one few = omega arith
