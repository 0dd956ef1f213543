-- The watermarks of a vector are those that the settler knows.
use Rattle.std.proofs.Common.{◌≡◌, ℕ, zero, suc, ◌<◌, ◌≤◌, List, [], ◌∷◌, length, sym, ap, arith}
use Rattle.ov_gossip.specs.Marks.{mark_at, low_of, full_of, least_from, least}
use Rattle.ov_gossip.specs.declared.marks.Marks.{Marks}
use Rattle.ov_gossip.proofs.Leasts.{least_under}
use Rattle.ov_topology.specs.Shape.{gates}
use Rattle.ov_topology.specs.declared.actor.Actor.{Actor}
use Rattle.ov_topology.specs.declared.actor.Actor.TheVariants.{Settler}
use Rattle.ov_topology.specs.declared.mode.Mode.{Mode}
use Rattle.ov_topology.specs.declared.mode.Mode.TheVariants.{Quorum, One}
use Rattle.ov_history.specs.Past.{History}
use Rattle.ov_history.specs.Counts.{least_of}
use Rattle.ov_history.specs.Marks.{mark, marks}
use Rattle.ov_history.specs.May.{Setting, upper}
use Rattle.ov_history.proofs.Counting as counting
use Rattle.ov_settler.specs.Settler.{SettlerState, IsSettler}
use Rattle.ov_settler.specs.Calls.{upper_of}

-- what is not above a number and what f says of each is not above the least of them
not_above : (f : ℕ → ℕ) (number n b : ℕ) → b ≤ number → ((k : ℕ) → k < n → b ≤ f k) → b ≤ least_of f number n
not_above f number zero b first each = first
not_above f number (suc n) b first each =
    let here : b ≤ f n = each n (omega arith) in
    let rest = not_above f number n b first (λ k less. each k (omega (arith, less))) in
    omega (arith, here, rest)

not_above_any : (f : Marks → ℕ) (number : ℕ) (vector : List Marks) (b : ℕ) → b ≤ number → ((k : ℕ) → k < length vector → b ≤ f (mark_at vector k)) → b ≤ least_from f number vector
not_above_any f number [] b first each = first
not_above_any f number (marks ∷ vector) b first each =
    let here : b ≤ f marks = each 0 (omega arith) in
    let rest = not_above_any f number vector b first (λ k less. each (suc k) (omega (arith, less))) in
    omega (arith, here, rest)

-- the least of a vector that has what f says of each number is the least of what f says
least_same : (f : Marks → ℕ) (g : ℕ → ℕ) (vector : List Marks) (n : ℕ) → 0 < n → length vector ≡ n → ((k : ℕ) → k < n → f (mark_at vector k) ≡ g k) → least f vector ≡ least_of g (g 0) n
least_same f g vector n some width same =
    let first : f (mark_at vector 0) ≡ g 0 = same 0 some in
    let all : (k : ℕ) → k < n → least f vector ≤ g k = λ k less. rw (sym (same k less)) (least_under f (f (mark_at vector 0)) vector k (omega (arith, less, width))) in
    let up : least f vector ≤ least_of g (g 0) n = not_above g (g 0) n (least f vector) (all 0 some) all in
    let each : (k : ℕ) → k < length vector → least_of g (g 0) n ≤ f (mark_at vector k) = λ k less. rw (same k (omega (arith, less, width))) (counting.least_under g (g 0) n k (omega (arith, less, width))) in
    let down : least_of g (g 0) n ≤ least f vector = not_above_any f (f (mark_at vector 0)) vector (least_of g (g 0) n) (each 0 (omega (arith, some, width))) each in
    omega (arith, up, down)

-- up to where a round asks is what the settler knows
pub upper_is : (t : Setting) (h : History) (actor : Actor) (s : SettlerState) (mode : Mode) → IsSettler t h actor s → upper_of s.vector mode ≡ upper t.topology s.centre h mode
upper_is t h actor s Quorum is = least_same low_of (λ g. mark low_of (Settler s.centre) g h) s.vector (gates t.topology) is.runs.shape.some_gateway is.width (λ k less. ap low_of (is.marks_are k less))
upper_is t h actor s One is = least_same full_of (λ g. mark full_of (Settler s.centre) g h) s.vector (gates t.topology) is.runs.shape.some_gateway is.width (λ k less. ap full_of (is.marks_are k less))
