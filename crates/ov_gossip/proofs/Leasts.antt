-- The least and the greatest of a list of marks: their laws, and the step of a loop that gathers them.
use Rattle.std.proofs.Common.{◌≡◌, ℕ, zero, suc, ◌+◌, ◌<◌, ◌≤◌, List, [], ◌∷◌, length, get_or, drop, ◌⊎◌, inl, inr, refl, ◌∙◌, arith}
use Rattle.std.specs.Prelude.{min}
use Rattle.std.proofs.lemmas.List.{drop_more}
use Rattle.ov_base.proofs.Orders.{min_either, max_either}
use Rattle.ov_gossip.specs.Marks.{no_marks, mark_at, IsLeast, IsGreatest, least_from, least, greatest}
use Rattle.ov_gossip.specs.declared.marks.Marks.{Marks}

min_swap : (a b c : ℕ) → min a (min b c) ≡ min b (min a c)
min_swap a b c = omega arith

-- a number may be taken first or last
pub least_again : (f : Marks → ℕ) (number : ℕ) (marks : Marks) (vector : List Marks)
    → least_from f (min (f marks) number) vector ≡ min (f marks) (least_from f number vector)
least_again f number marks [] = refl
least_again f number marks (one ∷ vector) =
    rw (least_again f number marks vector) (min_swap (f one) (f marks) (least_from f number vector))

-- one more of a list
pub least_more : (f : Marks → ℕ) (number : ℕ) (vector : List Marks) (i : ℕ) (d : Marks) → i < length vector
    → least_from f (min (f (get_or vector i d)) number) (drop (i + 1) vector) ≡ least_from f number (drop i vector)
least_more f number vector i d there =
    rw (drop_more vector i d there) (least_again f number (get_or vector i d) (drop (i + 1) vector))

-- the step of a loop that takes one more
pub least_step : (f : Marks → ℕ) (number next all : ℕ) (vector : List Marks) (i : ℕ) → i < length vector
    → next ≡ min (f (mark_at vector i)) number → least_from f number (drop i vector) ≡ all → least_from f next (drop (i + 1) vector) ≡ all
least_step f number next all vector i there e h = rw e (least_more f number vector i no_marks there ∙ h)

pub least_under : (f : Marks → ℕ) (number : ℕ) (vector : List Marks) (g : ℕ) → g < length vector
    → least_from f number vector ≤ f (mark_at vector g)
least_under f number [] g there = omega arith
least_under f number (marks ∷ vector) zero there = omega arith
least_under f number (marks ∷ vector) (suc g) there =
    let rest : least_from f number vector ≤ f (mark_at vector g) = least_under f number vector g (omega arith) in
    omega (arith, rest)

least_found : (f : Marks → ℕ) (number : ℕ) (vector : List Marks)
    → (least_from f number vector ≡ number) ⊎ IsLeast f vector (least_from f number vector)
least_found f number [] = inl refl
least_found f number (marks ∷ vector) = elim (min_either (f marks) (least_from f number vector)) [
  | inl e ↦ inr (record { under = least_under f number (marks ∷ vector); place = 0; there = omega arith; is = e })
  | inr e ↦ elim (least_found f number vector) [
    | inl q ↦ inl (cc)
    | inr h ↦ inr (record { under = least_under f number (marks ∷ vector); place = suc h.place; there = omega (arith, h.there); is = e ∙ h.is })
  ]
]

-- the least of a list is its least
pub least_is : (f : Marks → ℕ) (vector : List Marks) → 0 < length vector → IsLeast f vector (least f vector)
least_is f vector some = elim (least_found f (f (mark_at vector 0)) vector) [
  | inl e ↦ record { under = least_under f (f (mark_at vector 0)) vector; place = 0; there = some; is = e }
  | inr h ↦ h
]

-- there is one least
pub least_once : (f : Marks → ℕ) (vector : List Marks) (a b : ℕ) → IsLeast f vector a → IsLeast f vector b → a ≡ b
least_once f vector a b h k =
    let below : a ≤ f (mark_at vector k.place) = h.under k.place k.there in
    let above : b ≤ f (mark_at vector h.place) = k.under h.place h.there in
    omega (arith, below, above, h.is, k.is)

pub greatest_above : (f : Marks → ℕ) (vector : List Marks) (g : ℕ) → g < length vector → f (mark_at vector g) ≤ greatest f vector
greatest_above f [] g there = omega arith
greatest_above f (marks ∷ vector) zero there = omega arith
greatest_above f (marks ∷ vector) (suc g) there =
    let rest : f (mark_at vector g) ≤ greatest f vector = greatest_above f vector g (omega arith) in
    omega (arith, rest)

greatest_found : (f : Marks → ℕ) (vector : List Marks) → (greatest f vector ≡ 0) ⊎ IsGreatest f vector (greatest f vector)
greatest_found f [] = inl refl
greatest_found f (marks ∷ vector) = elim (max_either (f marks) (greatest f vector)) [
  | inl e ↦ inr (record { above = greatest_above f (marks ∷ vector); place = 0; there = omega arith; is = e })
  | inr e ↦ elim (greatest_found f vector) [
    | inl q ↦ inl (cc)
    | inr h ↦ inr (record { above = greatest_above f (marks ∷ vector); place = suc h.place; there = omega (arith, h.there); is = e ∙ h.is })
  ]
]

-- the greatest of a list is its greatest
pub greatest_is : (f : Marks → ℕ) (vector : List Marks) → 0 < length vector → IsGreatest f vector (greatest f vector)
greatest_is f vector some = elim (greatest_found f vector) [
  | inl e ↦
      let below : f (mark_at vector 0) ≤ greatest f vector = greatest_above f vector 0 some in
      record { above = greatest_above f vector; place = 0; there = some; is = omega (arith, e, below) }
  | inr h ↦ h
]

-- there is one greatest
pub greatest_once : (f : Marks → ℕ) (vector : List Marks) (a b : ℕ) → IsGreatest f vector a → IsGreatest f vector b → a ≡ b
greatest_once f vector a b h k =
    let above : f (mark_at vector k.place) ≤ a = h.above k.place k.there in
    let below : f (mark_at vector h.place) ≤ b = k.above h.place h.there in
    omega (arith, below, above, h.is, k.is)
