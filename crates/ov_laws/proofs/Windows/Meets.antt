-- What a question needs and what its answers come from meet: each version of the window was held by a node that answered.
use Rattle.std.proofs.Common.{◌≡◌, ℕ, zero, suc, ◌+◌, ◌≤◌, ◌<◌, Bool, true, false, List, [], ◌∷◌, ◌++◌, Some, refl, arith, inl, inr, sym, subst}
use Rattle.std.specs.Prelude.{if◌then◌else◌, nat_lt}
use Rattle.std.proofs.lemmas.Bool.{cases_Bool, ltb-true}
use Rattle.ov_functor.specs.declared.part.Part.{Part}
use Rattle.ov_topology.specs.Shape.{Shape, IsShape, marked}
use Rattle.ov_topology.specs.declared.actor.Actor.TheVariants.{Settler}
use Rattle.ov_topology.specs.declared.mode.Mode.{Mode}
use Rattle.ov_topology.specs.declared.mode.Mode.TheVariants.{Quorum, One}
use Rattle.ov_event.specs.Letters.{touches, is_in}
use Rattle.ov_history.specs.Past.{History, at, before}
use Rattle.ov_history.specs.Counts.{all_below, passing, weight}
use Rattle.ov_laws.specs.Holders.{stored, holders}
use Rattle.ov_history.specs.Marks.{visible, replicated}
use Rattle.ov_history.specs.Settlers.{Round, took, IsEnough}
use Rattle.ov_history.specs.May.{Setting, May, Lawful, MayAsk}
use Rattle.ov_laws.specs.Final.{IsClosed, Final, FinalAll}
use Rattle.ov_history.specs.Serial.{begun_at}
use Rattle.ov_history.proofs.Counting.{marked_push}
use Rattle.ov_history.proofs.Past.{lawful_at, lawful_before}
use Rattle.ov_laws.proofs.Watermarks.Finals.{visible_final, replicated_final}
use Rattle.ov_laws.proofs.Times.Begun.{final_begun, final_all_begun}
use Rattle.ov_laws.proofs.Windows.Rounds.{asked_by}
use Rattle.ov_history.proofs.Given.{all_below_at, settler_known}

-- ---- sets of centres

-- where more pass two tests together than there are numbers, one passes both
marked_meet : (f g : ℕ → Bool) (n : ℕ) → n < marked (passing f n) + marked (passing g n) → (c : ℕ) × (c < n) × (f c ≡ true) × (g c ≡ true)
marked_meet f g zero many = absurd (omega (arith, many))
marked_meet f g (suc n) many = by (f n) (g n) refl refl (marked_push (passing f n) (f n)) (marked_push (passing g n) (g n)) (marked_meet f g n)
  where
    later : (c : ℕ) × (c < n) × (f c ≡ true) × (g c ≡ true) → (c : ℕ) × (c < suc n) × (f c ≡ true) × (g c ≡ true)
    later found = (found.0, let less : found.0 < n = found.1 in omega (arith, less), found.2, found.3)

    by : (a b : Bool) → f n ≡ a → g n ≡ b → marked (passing f n ++ f n ∷ []) ≡ (if a then 1 else 0) + marked (passing f n) → marked (passing g n ++ g n ∷ []) ≡ (if b then 1 else 0) + marked (passing g n)
        → (n < marked (passing f n) + marked (passing g n) → (c : ℕ) × (c < n) × (f c ≡ true) × (g c ≡ true)) → (c : ℕ) × (c < suc n) × (f c ≡ true) × (g c ≡ true)
    by true true fs gs left right rest = (n, omega arith, fs, gs)
    by true false fs gs left right rest = later (rest (omega (arith, many, left, right)))
    by false true fs gs left right rest = later (rest (omega (arith, many, left, right)))
    by false false fs gs left right rest = later (rest (omega (arith, many, left, right)))

-- two sets of centres whose votes together exceed the number of centres have one in common
pub quorums_meet : (t : Shape) (f g : ℕ → Bool) → t.centres < weight t f + weight t g → (c : ℕ) × (c < t.centres) × (f c ≡ true) × (g c ≡ true)
quorums_meet t f g many = marked_meet f g t.centres many

-- ---- what the modes have in common

-- Nothing more is begun below the upper end since the question, and each version below it was held then, in each partition that
-- it touches, by a node whose answer was taken.
pub record Meets (t : Shape) (h : History) (k s n below : ℕ) : Type 0 where
  pub closed : IsClosed t (before k h) below
  pub both : (version : ℕ) (transaction : List Part) (p : ℕ) → begun_at (before k h) version ≡ Some transaction → version < below → p < t.partitions → touches t transaction p ≡ true
      → (c : ℕ) × (stored c p version (before k h) ≡ true) × (took s n c p h ≡ true)

-- a read quorum meets the write quorum of each version below the visibility watermark
meets_quorum : (t : Setting) (h : History) (k s below : ℕ) (round : Round) → IsShape t.topology → Lawful t (before k h) → Final t.topology (before k h) below
    → ((p : ℕ) → p < t.topology.partitions → IsEnough t.topology s round p h Quorum) → Meets t.topology h k s round.number below
meets_quorum t h k s below round shape old final enough = record {
  closed = final.closed;
  both = λ version transaction p begun less inside touched.
      let written : t.topology.write ≤ holders t.topology version p (before k h) = final_begun t (before k h) below old final version transaction p begun less inside touched in
      let taken : t.topology.read ≤ weight t.topology (λ c. took s round.number c p h) = enough p inside in
      let meet : t.topology.centres < t.topology.write + t.topology.read = shape.meet in
      let found = quorums_meet t.topology (λ c. stored c p version (before k h)) (λ c. took s round.number c p h) (omega (arith, written, taken, meet)) in
      (found.0, found.2, found.3);
}

-- the settler's own centre holds each version below the replica watermark
meets_one : (t : Setting) (h : History) (k s below : ℕ) (round : Round) → s < t.topology.centres → Lawful t (before k h) → FinalAll t.topology (before k h) below
    → ((p : ℕ) → p < t.topology.partitions → IsEnough t.topology s round p h One) → Meets t.topology h k s round.number below
meets_one t h k s below round known old final enough = record {
  closed = final.closed;
  both = λ version transaction p begun less inside touched.
      let all : all_below (λ c. stored c p version (before k h)) t.topology.centres ≡ true = final_all_begun t (before k h) below old final version transaction p begun less inside touched in
      (s, all_below_at (λ c. stored c p version (before k h)) t.topology.centres all s known, enough p inside);
}

-- answers enough meet what was held
pub meets : (t : Setting) (h : History) (k s : ℕ) (round : Round) → IsShape t.topology → Lawful t h → at h k ≡ Some (asked_by s round)
    → ((p : ℕ) → p < t.topology.partitions → IsEnough t.topology s round p h round.mode) → Meets t.topology h k s round.number round.below
meets t h k s round shape lawful ask enough = by round.mode may.guard enough
  where
    may : May t (before k h) (asked_by s round)
    may = lawful_at t h k (asked_by s round) lawful ask

    old : Lawful t (before k h)
    old = lawful_before t h k lawful

    by : (mode : Mode) → MayAsk t.topology (before k h) s round.number mode round.from round.below
        → ((p : ℕ) → p < t.topology.partitions → IsEnough t.topology s round p h mode) → Meets t.topology h k s round.number round.below
    by Quorum asks each =
        let below_is : round.below ≡ visible t.topology (Settler s) (before k h) = asks.below_is in
        let final : Final t.topology (before k h) round.below = subst (λ (w : ℕ). Final t.topology (before k h) w) (sym below_is) (visible_final t (before k h) (Settler s) old) in
        meets_quorum t h k s round.below round shape old final each
    by One asks each =
        let below_is : round.below ≡ replicated t.topology (Settler s) (before k h) = asks.below_is in
        let final : FinalAll t.topology (before k h) round.below = subst (λ (w : ℕ). FinalAll t.topology (before k h) w) (sym below_is) (replicated_final t (before k h) (Settler s) old) in
        meets_one t h k s round.below round (settler_known t.topology s may.known) old final each
