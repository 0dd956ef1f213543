-- Calls in their turn: what one call more, and a partition that is done, make of them.
use Rattle.std.proofs.Common.{◌≡◌, ◌≢◌, ◌==◌, ℕ, zero, suc, ◌+◌, ◌≤◌, ◌<◌, Bool, true, false, ◌&&◌, ◌||◌, ◌⊎◌, inl, inr, List, [], ◌∷◌, ◌++◌, length, get_or, refl, sym, ap, subst, ◌∙◌, arith}
use Rattle.std.proofs.lemmas.Bool.{cases_Bool}
use Rattle.std.proofs.lemmas.Bool.Decides.{eqb_tells}
use Rattle.std.proofs.lemmas.Grind.{common_steps}
use Rattle.ov_topology.specs.Shape.{Shape, marked}
use Rattle.ov_topology.specs.declared.mode.Mode.{Mode}
use Rattle.ov_topology.specs.declared.mode.Mode.TheVariants.{Quorum, One}
use Rattle.ov_history.specs.Counts.{passing}
use Rattle.ov_window.specs.Harvest.{IsEnough}
use Rattle.ov_window.specs.declared.round.Round.{Round}
use Rattle.ov_link.specs.Calls.{AreInTurn, HasEnough, IsNext, IsTurnOf, answers_of, call_of, has_replied, is_of, replied_in, was_asked}
use Rattle.ov_link.specs.Progress.{IsAt, IsSpan, IsSpanOf}
use Rattle.ov_link.specs.declared.link.Call.{Call}
use Rattle.ov_link.proofs.Counts.{asked_now, asked_stays, other_centre, other_part, own_call, replied_asked, replied_failed, replied_now, replied_stays}
use Rattle.ov_link.proofs.Passing.{marked_none, marked_one, marked_same, passing_same}

-- ---- splits

-- where calls and one more are split, the split is behind them all or within
split_more : (calls before after : List Call) (call one : Call) → calls ++ call ∷ [] ≡ before ++ one ∷ after → ((before ≡ calls) × (one ≡ call)) ⊎ ((rest : List Call) × (calls ≡ before ++ one ∷ rest))
split_more [] [] after call one is = inl (refl, cc)
split_more [] (first ∷ []) after call one is = absurd (cc)
split_more [] (first ∷ other ∷ before) after call one is = absurd (cc)
split_more (first ∷ rest) [] after call one is = inr (rest, cc)
split_more (first ∷ rest) (other ∷ before) after call one is =
    let first_is : first ≡ other = cc in
    let rest_is : rest ++ call ∷ [] ≡ before ++ one ∷ after = cc in
    by first_is (split_more rest before after call one rest_is)
  where
    by : first ≡ other → ((before ≡ rest) × (one ≡ call)) ⊎ ((more : List Call) × (rest ≡ before ++ one ∷ more))
        → ((other ∷ before ≡ first ∷ rest) × (one ≡ call)) ⊎ ((more : List Call) × (first ∷ rest ≡ other ∷ before ++ one ∷ more))
    by same (inl end) = inl ((λ i. sym same i ∷ end.0 i), end.1)
    by same (inr within) = inr (within.0, (λ i. same i ∷ within.1 i))

-- no calls are in their turn
pub in_turn_none : (t : Shape) (round : Round) → AreInTurn t round []
in_turn_none t round [] after call is = absurd (cc)
in_turn_none t round (first ∷ before) after call is = absurd (cc)

-- calls are in their turn with the one that comes next
pub in_turn_more : (t : Shape) (round : Round) (calls : List Call) (call : Call) → AreInTurn t round calls → IsNext t round calls call → AreInTurn t round (calls ++ call ∷ [])
in_turn_more t round calls call old next before after one is = by (split_more calls before after call one is)
  where
    by : ((before ≡ calls) × (one ≡ call)) ⊎ ((rest : List Call) × (calls ≡ before ++ one ∷ rest)) → IsNext t round before one
    by (inl end) = subst (λ (list : List Call). IsNext t round list one) (sym end.0) (subst (IsNext t round calls) (sym end.1) next)
    by (inr within) = old before within.0 one within.1

-- ---- one call more

-- what the nodes of another partition have answered stays
replied_other : (t : Shape) (centre part p : ℕ) (answered : Bool) (calls : List Call) → p ≢ part → replied_in t p (calls ++ call_of centre part answered ∷ []) ≡ replied_in t p calls
replied_other t centre part p answered calls differ =
    passing_same (λ c. has_replied c p calls) (λ c. has_replied c p (calls ++ call_of centre part answered ∷ [])) t.centres
    (λ c less. replied_stays c p calls (call_of centre part answered) (other_part centre part c p answered differ))

-- the answers of a partition are one more where a node answers that had not
pub answers_more : (t : Shape) (centre part : ℕ) (calls : List Call) → centre < t.centres → was_asked centre part calls ≡ false → answers_of t part (calls ++ call_of centre part true ∷ []) ≡ answers_of t part calls + 1
answers_more t centre part calls less fresh =
    marked_one (λ c. has_replied c part calls) (λ c. has_replied c part (calls ++ call_of centre part true ∷ [])) t.centres centre less
    (replied_asked centre part calls fresh) (replied_now centre part calls (call_of centre part true) refl (own_call centre part true))
    (λ c differ. replied_stays c part calls (call_of centre part true) (other_centre centre part c part true differ))

-- the answers of a partition are as many where a call fails
pub answers_same : (t : Shape) (centre part : ℕ) (calls : List Call) → answers_of t part (calls ++ call_of centre part false ∷ []) ≡ answers_of t part calls
answers_same t centre part calls =
    marked_same (λ c. has_replied c part calls) (λ c. has_replied c part (calls ++ call_of centre part false ∷ [])) t.centres
    (λ c less. replied_failed c part calls (call_of centre part false) refl)

-- ---- where the gathering is

module _ (t : Shape) (round : Round) (first centre part : ℕ) (calls : List Call) where
  -- a node that comes was not asked
  pub fresh_node : (c : ℕ) → IsAt t round first centre part calls → centre ≤ c → was_asked c part calls ≡ false
  fresh_node c is less = by (cases_Bool (was_asked c part calls))
    where
      by : (was_asked c part calls ≡ true) ⊎ (was_asked c part calls ≡ false) → was_asked c part calls ≡ false
      by (inl asked) = let under : c < centre = ((is.here c).0 asked).1 in absurd (omega (arith, less, under))
      by (inr not) = not

  -- the next node's call comes in its turn
  pub is_next : (end : ℕ) (answered : Bool) → IsSpan t round first end → IsAt t round first centre part calls → first ≤ centre → centre < end → part < t.partitions
      → (HasEnough t round part calls → ⊥) → IsNext t round calls (call_of centre part answered)
  is_next end answered span is from less inside needed = record {
    centre_in = omega (arith, less, span.within);
    part_in = inside;
    earlier = is.earlier;
    needed = needed;
    turn = by round.mode span.span;
  }
    where
      by : (mode : Mode) → IsSpanOf t round mode first end → IsTurnOf round mode centre part calls
      by Quorum ends = λ c. (λ asked. ((is.here c).0 asked).1, λ under. (is.here c).1 (omega (arith, ends.0), under))
      by One ends = (omega (arith, ends.0, ends.1, from, less), fresh_node centre is (omega arith))

  -- after a call the gathering has come one node on
  pub at_more : (answered : Bool) → first ≤ centre → IsAt t round first centre part calls → IsAt t round first (centre + 1) part (calls ++ call_of centre part answered ∷ [])
  at_more answered from is = record {
    earlier = λ p less. subst (λ (marks : List Bool). IsEnough t round.settler marks round.mode) (sym (replied_other t centre part p answered calls (omega (arith, less)))) (is.earlier p less);
    here = λ c. (asked c, λ within. reached c within.0 within.1);
    later = λ c p less. asked_stays c p calls (call_of centre part answered) (other_part centre part c p answered (omega (arith, less))) ∙ is.later c p less;
  }
    where
      asked : (c : ℕ) → was_asked c part (calls ++ call_of centre part answered ∷ []) ≡ true → (first ≤ c) × (c < centre + 1)
      asked c was = elim (eqb_tells c centre) [
        | inl same ↦ (omega (arith, same.1, from), omega (arith, same.1))
        | inr differ ↦ let old = (is.here c).0 (sym (asked_stays c part calls (call_of centre part answered) (other_centre centre part c part answered differ.1)) ∙ was) in
            (old.0, omega (arith, old.1))
      ]

      reached : (c : ℕ) → first ≤ c → c < centre + 1 → was_asked c part (calls ++ call_of centre part answered ∷ []) ≡ true
      reached c low high = elim (eqb_tells c centre) [
        | inl same ↦ asked_now c part calls (call_of centre part answered) (ap (λ k. is_of k part (call_of centre part answered)) same.1 ∙ own_call centre part answered)
        | inr differ ↦ asked_stays c part calls (call_of centre part answered) (other_centre centre part c part answered differ.1)
            ∙ (is.here c).1 (low, omega (arith, high, differ.1))
      ]

  -- where the partition gave enough, the gathering has come to the first node of the next
  pub at_next : IsAt t round first centre part calls → HasEnough t round part calls → IsAt t round first first (part + 1) calls
  at_next is enough = record {
    earlier = λ p less. elim (eqb_tells p part) [
      | inl same ↦ subst (λ k. HasEnough t round k calls) (sym same.1) enough
      | inr differ ↦ is.earlier p (omega (arith, less, differ.1))
    ];
    here = λ c. (λ asked. let none = is.later c (part + 1) (omega arith) in absurd (cc), λ within. absurd (omega (arith, within.0, within.1)));
    later = λ c p less. is.later c p (omega (arith, less));
  }

-- before all calls the gathering is at the first node of the first partition
pub at_first : (t : Shape) (round : Round) (first : ℕ) → IsAt t round first first 0 []
at_first t round first = record {
  earlier = λ p less. absurd (omega (arith, less));
  here = λ c. (λ asked. absurd (cc), λ within. absurd (omega (arith, within.0, within.1)));
  later = λ c p less. refl;
}

-- at the first node of a partition none of it has answered
pub none_answered : (t : Shape) (round : Round) (first part : ℕ) (calls : List Call) → IsAt t round first first part calls → answers_of t part calls ≡ 0
none_answered t round first part calls is =
    marked_none (λ c. has_replied c part calls) t.centres (λ c less. replied_asked c part calls (by c (cases_Bool (was_asked c part calls))))
  where
    by : (c : ℕ) → (was_asked c part calls ≡ true) ⊎ (was_asked c part calls ≡ false) → was_asked c part calls ≡ false
    by c (inl asked) = let within = (is.here c).0 asked in absurd (omega (arith, within.0, within.1))
    by c (inr not) = not
