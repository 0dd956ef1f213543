-- Marks of centres: those that pass a test, and where a mark stands.
use Rattle.std.proofs.Common.{◌≡◌, ◌≢◌, ℕ, zero, suc, ◌+◌, ◌<◌, ◌≤◌, Bool, true, false, inl, inr, List, [], ◌∷◌, ◌++◌, length, get_or, refl, sym, ap, ◌∙◌, arith}
use Rattle.std.specs.Prelude.{if◌then◌else◌}
use Rattle.std.proofs.lemmas.Grind.{common_steps}
use Rattle.std.proofs.lemmas.Bool.Decides.{eqb_tells}
use Rattle.std.proofs.lemmas.List.{ext_get_or, get_or_append_left, get_or_push, length_push}
use Rattle.ov_topology.specs.Shape.{marked}
use Rattle.ov_history.specs.Counts.{passing}
use Rattle.ov_history.proofs.Counting.{marked_push}

-- there is a mark for each number below
pub length_passing : (f : ℕ → Bool) (n : ℕ) → length (passing f n) ≡ n
length_passing f zero = refl
length_passing f (suc n) = let old = length_passing f n in omega (arith, old, length_push (passing f n) (f n))

-- the mark of a number tells whether it passes
pub get_passing : (f : ℕ → Bool) (n c : ℕ) (other : Bool) → c < n → get_or (passing f n) c other ≡ f c
get_passing f zero c other less = absurd (omega (arith, less))
get_passing f (suc n) c other less =
    let long = length_passing f n in
    elim (eqb_tells c n) [
      | inl same ↦ rw same.1 (get_or_push (passing f n) (f n) other n long)
      | inr differ ↦ let under : c < n = omega (arith, less, differ.1) in
          get_or_append_left (passing f n) (f n ∷ []) other c (omega (arith, under, long)) ∙ get_passing f n c other under
    ]

-- marks that tell whether each number below passes are those of the numbers that pass
pub marks_passing : (f : ℕ → Bool) (n : ℕ) (marks : List Bool) → length marks ≡ n → ((c : ℕ) → c < n → get_or marks c false ≡ f c) → marks ≡ passing f n
marks_passing f n marks long each =
    ext_get_or false marks (passing f n) (long ∙ sym (length_passing f n))
    (λ c less. let under : c < n = omega (arith, less, long) in each c under ∙ sym (get_passing f n c false under))

-- a number that is marked has a mark
pub marked_in : (marks : List Bool) (c : ℕ) → get_or marks c false ≡ true → c < length marks
marked_in [] c is = absurd (cc)
marked_in (first ∷ rest) zero is = omega arith
marked_in (first ∷ rest) (suc c) is = let old = marked_in rest c is in omega (arith, old)

-- a row that has a place is one of the rows
pub row_in : (rows : List (List Bool)) (p c : ℕ) → c < length (get_or rows p []) → p < length rows
row_in [] p c less = absurd (omega (arith, less))
row_in (first ∷ rest) zero c less = omega arith
row_in (first ∷ rest) (suc p) c less = let old = row_in rest p c less in omega (arith, old)

-- ---- how many pass

-- tests that agree below a number have the same marks
pub passing_same : (f g : ℕ → Bool) (n : ℕ) → ((c : ℕ) → c < n → g c ≡ f c) → passing g n ≡ passing f n
passing_same f g zero same = refl
passing_same f g (suc n) same = rw (same n (omega arith), passing_same f g n (λ c less. same c (omega (arith, less)))) refl

-- tests that agree below a number have as many marks
pub marked_same : (f g : ℕ → Bool) (n : ℕ) → ((c : ℕ) → c < n → g c ≡ f c) → marked (passing g n) ≡ marked (passing f n)
marked_same f g n same = ap marked (passing_same f g n same)

-- where none passes, none is marked
pub marked_none : (f : ℕ → Bool) (n : ℕ) → ((c : ℕ) → c < n → f c ≡ false) → marked (passing f n) ≡ 0
marked_none f zero none = refl
marked_none f (suc n) none =
    let here = none n (omega arith) in
    let old = marked_none f n (λ c less. none c (omega (arith, less))) in
    let push = marked_push (passing f n) (f n) in
    grind (arith, common_steps)

-- where one number more passes, one mark more is there
pub marked_one : (f g : ℕ → Bool) (n c : ℕ) → c < n → f c ≡ false → g c ≡ true → ((k : ℕ) → k ≢ c → g k ≡ f k) → marked (passing g n) ≡ marked (passing f n) + 1
marked_one f g zero c less was is others = absurd (omega (arith, less))
marked_one f g (suc n) c less was is others =
    let left = marked_push (passing f n) (f n) in
    let right = marked_push (passing g n) (g n) in
    elim (eqb_tells c n) [
      | inl same ↦ let old = marked_same f g n (λ k under. others k (omega (arith, under, same.1))) in
          let one : f n ≡ false = ap f (sym same.1) ∙ was in
          let other : g n ≡ true = ap g (sym same.1) ∙ is in
          grind (arith, common_steps)
      | inr differ ↦ let old = marked_one f g n c (omega (arith, less, differ.1)) was is others in
          let here : g n ≡ f n = others n (omega (arith, differ.1)) in
          grind (arith, common_steps)
    ]

-- where each number passes one of two tests, the marks of both are enough for all
pub marked_cover : (f g : ℕ → Bool) (n : ℕ) → ((c : ℕ) → c < n → f c ≡ false → g c ≡ true) → n ≤ marked (passing f n) + marked (passing g n)
marked_cover f g zero cover = omega arith
marked_cover f g (suc n) cover =
    let left = marked_push (passing f n) (f n) in
    let right = marked_push (passing g n) (g n) in
    let here = cover n (omega arith) in
    let old = marked_cover f g n (λ c less. cover c (omega (arith, less))) in
    grind (arith, common_steps)
