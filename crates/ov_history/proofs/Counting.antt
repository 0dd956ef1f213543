-- Numbers below a number: those that pass, their votes, and the least of what is said of them.
use Rattle.std.proofs.Common.{◌≡◌, ℕ, zero, suc, ◌+◌, ◌≤◌, ◌<◌, Bool, true, false, List, [], ◌∷◌, ◌++◌, refl, ap, arith, inl, inr}
use Rattle.std.specs.Prelude.{if◌then◌else◌}
use Rattle.std.proofs.lemmas.Grind.{common_steps}
use Rattle.std.proofs.lemmas.Bool.Decides.{eqb_tells}
use Rattle.ov_topology.specs.Shape.{Shape, marked, votes_of}
use Rattle.ov_history.specs.Counts.{any_below, all_below, passing, weight, least_of}

-- ---- tests that agree

-- tests that agree on the numbers below
pub any_same : (f g : ℕ → Bool) (n : ℕ) → ((p : ℕ) → p < n → f p ≡ g p) → any_below f n ≡ any_below g n
any_same f g zero same = refl
any_same f g (suc n) same = rw (same n (omega arith), any_same f g n (λ p less. same p (omega (arith, less)))) refl

pub all_same : (f g : ℕ → Bool) (n : ℕ) → ((c : ℕ) → c < n → f c ≡ g c) → all_below f n ≡ all_below g n
all_same f g zero same = refl
all_same f g (suc n) same = rw (same n (omega arith), all_same f g n (λ c less. same c (omega (arith, less)))) refl

passing_same : (f g : ℕ → Bool) (n : ℕ) → ((c : ℕ) → c < n → f c ≡ g c) → passing f n ≡ passing g n
passing_same f g zero same = refl
passing_same f g (suc n) same = rw (same n (omega arith), passing_same f g n (λ c less. same c (omega (arith, less)))) refl

pub weight_same : (t : Shape) (f g : ℕ → Bool) → ((c : ℕ) → c < t.centres → f c ≡ g c) → weight t f ≡ weight t g
weight_same t f g same = ap (votes_of t) (passing_same f g t.centres same)

-- ---- whether one passes, or all

-- where none passes, each fails
pub none_below : (f : ℕ → Bool) (n p : ℕ) → any_below f n ≡ false → p < n → f p ≡ false
none_below f zero p none less = absurd (omega arith)
none_below f (suc n) p none less = grind (arith, common_steps, none_below f n p)

-- where each fails, none passes
pub none_passes : (f : ℕ → Bool) (n : ℕ) → ((p : ℕ) → p < n → f p ≡ false) → any_below f n ≡ false
none_passes f zero each = refl
none_passes f (suc n) each =
    let here : f n ≡ false = each n (omega arith) in
    let rest : any_below f n ≡ false = none_passes f n (λ p less. each p (omega (arith, less))) in
    grind (arith, common_steps)

-- where one passes, some does
pub some_passes : (f : ℕ → Bool) (n p : ℕ) → p < n → f p ≡ true → any_below f n ≡ true
some_passes f zero p less passes = absurd (omega arith)
some_passes f (suc n) p less passes = grind (arith, common_steps, some_passes f n p)

-- where one fails, not all pass
pub not_all_pass : (f : ℕ → Bool) (n p : ℕ) → p < n → f p ≡ false → all_below f n ≡ false
not_all_pass f zero p less fails = absurd (omega arith)
not_all_pass f (suc n) p less fails = grind (arith, common_steps, not_all_pass f n p)

-- none passes where none passed a test that is no stronger
pub none_less : (f g : ℕ → Bool) (n : ℕ) → ((p : ℕ) → f p ≡ false → g p ≡ false) → any_below f n ≡ false → any_below g n ≡ false
none_less f g zero less none = refl
none_less f g (suc n) less none = let here = less n in let rest = none_less f g n less in grind (arith, common_steps)

-- all pass where all passed another test that is no weaker
pub all_more : (f g : ℕ → Bool) (n : ℕ) → ((c : ℕ) → f c ≡ true → g c ≡ true) → all_below f n ≡ true → all_below g n ≡ true
all_more f g zero more all = refl
all_more f g (suc n) more all = let here = more n in let rest = all_more f g n more in grind (arith, common_steps)

-- ---- how many pass

-- one more in a list of marks
pub marked_push : (marks : List Bool) (one : Bool) → marked (marks ++ one ∷ []) ≡ (if one then 1 else 0) + marked marks
marked_push [] true = refl
marked_push [] false = refl
marked_push (true ∷ marks) one = let rest = marked_push marks one in omega (arith, rest)
marked_push (false ∷ marks) one = marked_push marks one

-- no fewer are marked where more pass
marked_more : (f g : ℕ → Bool) (n : ℕ) → ((c : ℕ) → f c ≡ true → g c ≡ true) → marked (passing f n) ≤ marked (passing g n)
marked_more f g zero more = omega arith
marked_more f g (suc n) more =
    let here = more n in
    let rest : marked (passing f n) ≤ marked (passing g n) = marked_more f g n more in
    let left : marked (passing f n ++ f n ∷ []) ≡ (if f n then 1 else 0) + marked (passing f n) = marked_push (passing f n) (f n) in
    let right : marked (passing g n ++ g n ∷ []) ≡ (if g n then 1 else 0) + marked (passing g n) = marked_push (passing g n) (g n) in
    grind (arith, common_steps)

-- all are marked where all pass
marked_all : (f : ℕ → Bool) (n : ℕ) → all_below f n ≡ true → marked (passing f n) ≡ n
marked_all f zero all = refl
marked_all f (suc n) all =
    let rest = marked_all f n in
    let more : marked (passing f n ++ f n ∷ []) ≡ (if f n then 1 else 0) + marked (passing f n) = marked_push (passing f n) (f n) in
    grind (arith, common_steps)

-- no fewer votes where more centres pass
pub weight_more : (t : Shape) (f g : ℕ → Bool) → ((c : ℕ) → f c ≡ true → g c ≡ true) → weight t f ≤ weight t g
weight_more t f g more = marked_more f g t.centres more

-- all votes where all centres pass
pub weight_of_all : (t : Shape) (f : ℕ → Bool) → all_below f t.centres ≡ true → weight t f ≡ t.centres
weight_of_all t f all = marked_all f t.centres all

-- ---- the least of what is said

-- the least is not above what is said of a number below
pub least_under : (f : ℕ → ℕ) (number n g : ℕ) → g < n → least_of f number n ≤ f g
least_under f number zero g less = absurd (omega arith)
least_under f number (suc n) g less = elim (eqb_tells g n) [
  | inl h ↦ let same : g ≡ n = h.1 in rw same (omega arith)
  | inr h ↦ let rest : least_of f number n ≤ f g = least_under f number n g (omega (arith, h.1)) in omega (arith, rest)
]

-- one least is not above another where this holds of all that is said
pub least_less : (f g : ℕ → ℕ) (a b n : ℕ) → a ≤ b → ((k : ℕ) → f k ≤ g k) → least_of f a n ≤ least_of g b n
least_less f g a b zero first each = first
least_less f g a b (suc n) first each =
    let here : f n ≤ g n = each n in
    let rest : least_of f a n ≤ least_of g b n = least_less f g a b n first each in
    omega (arith, here, rest)
