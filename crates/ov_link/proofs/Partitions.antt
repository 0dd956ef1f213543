-- A partition that is gathered: one call more, its end, and why it falls short.
use Rattle.std.proofs.Common.{◌≡◌, ℕ, ◌+◌, ◌≤◌, ◌<◌, Bool, true, false, ◌⊎◌, inl, inr, Option, Some, None, List, [], ◌∷◌, ◌++◌, length, get_or, replicate, refl, sym, ap, subst, ◌∙◌, arith}
use Rattle.std.specs.Prelude.{if◌then◌else◌}
use Rattle.std.specs.Option.{option_map}
use Rattle.std.proofs.lemmas.Bool.{cases_Bool, le-leb}
use Rattle.std.proofs.lemmas.Bool.Decides.{eqb_tells}
use Rattle.std.proofs.lemmas.List.{append-nil, get_or-replicate, length-replicate}
use Rattle.ov_link.specs.Links.{Rose}
use Rattle.ov_topology.specs.Shape.{Shape, marked}
use Rattle.ov_topology.specs.declared.mode.Mode.{Mode}
use Rattle.ov_topology.specs.declared.mode.Mode.TheVariants.{Quorum, One}
use Rattle.ov_window.specs.Harvest.{Gathered, IsComplete, IsEnough, IsMarked, fresh, has_answered, with_answer}
use Rattle.ov_window.specs.declared.round.Round.{Round}
use Rattle.ov_link.specs.Calls.{HasEnough, answers_of, call_of, has_replied, replied_in, was_asked}
use Rattle.ov_link.specs.Gathering.{HasCause, HaveFailed, MayAsk, has_risen, risen_in}
use Rattle.ov_link.specs.Progress.{Advances, HasCome, IsAt, IsCall, IsLater, IsSpan, IsSpanOf, Seen, Stands, Stops}
use Rattle.ov_link.specs.declared.gather.HarvestError.{HarvestError}
use Rattle.ov_link.specs.declared.gather.HarvestError.TheVariants.{NoQuorum}
use Rattle.ov_link.specs.declared.link.Call.{Call}
use Rattle.ov_link.proofs.Counts.{replied_asked}
use Rattle.ov_link.proofs.Passing.{get_passing, marked_cover, marked_none}
use Rattle.ov_link.proofs.Standing.{has_enough, is_complete, stands_answered, stands_failed}
use Rattle.ov_link.proofs.Turns.{answers_more, answers_same, at_first, at_more, at_next, fresh_node, in_turn_none, is_next, none_answered}
use Rattle.ov_link.proofs.Windows.{answered_in}

-- ---- one call more

-- after a call the gathering has gone on by one node
pub one_more : (t : Shape) (round : Round) (before middle now : Seen) (g mid new : Gathered) (first centre part answers more end : ℕ) (answered : Bool) → IsSpan t round first end → first ≤ centre → centre < end
    → part < t.partitions → (IsComplete mid part → ⊥) → IsLater middle now → Advances t round before middle g mid first part centre part answers
    → (has_answered mid centre part ≡ false → IsCall round centre part middle now mid new answered) → more ≡ (if answered then answers + 1 else answers)
    → Advances t round before now g new first part (centre + 1) part more
one_more t round before middle now g mid new first centre part answers more end answered span from less inside missing later old call count start begun =
    by answered (call (come.stands.gathered centre part ∙ replied_asked centre part come.calls none)) count
  where
    come : HasCome t round start middle mid first centre part answers
    come = old start begun

    none : was_asked centre part come.calls ≡ false
    none = fresh_node t round first centre part come.calls centre come.at (omega arith)

    within : centre < t.centres
    within = omega (arith, less, span.within)

    needed : HasEnough t round part come.calls → ⊥
    needed enough = missing (is_complete t round start middle mid come.calls come.stands part inside enough)

    by : (b : Bool) → IsCall round centre part middle now mid new b → more ≡ (if b then answers + 1 else answers) → HasCome t round start now new first (centre + 1) part more
    by true is count_is = record {
      calls = come.calls ++ call_of centre part true ∷ [];
      stands = subst (λ x. Stands t round start now x (come.calls ++ call_of centre part true ∷ [])) (sym is.brings.1)
          (stands_answered t round start middle mid come.calls come.stands now centre part within inside later is.brings.0
          (is_next t round first centre part come.calls end true span come.at from less inside needed) is.noted is.brings.2 is.brings.3 is.brings.4);
      at = at_more t round first centre part come.calls true from come.at;
      count = count_is ∙ ap (λ n. n + 1) come.count ∙ sym (answers_more t centre part come.calls within none);
    }
    by false is count_is = record {
      calls = come.calls ++ call_of centre part false ∷ [];
      stands = subst (λ x. Stands t round start now x (come.calls ++ call_of centre part false ∷ [])) (sym is.brings.0)
          (stands_failed t round start middle mid come.calls come.stands now centre part within inside later
          (is_next t round first centre part come.calls end false span come.at from less inside needed) is.noted is.brings.1);
      at = at_more t round first centre part come.calls false from come.at;
      count = count_is ∙ come.count ∙ sym (answers_same t centre part come.calls);
    }

-- ---- the end of a partition

-- where the partition is complete, the gathering has come to the next
pub part_done : (t : Shape) (round : Round) (before now : Seen) (g new : Gathered) (first centre part answers : ℕ) → part < t.partitions → IsComplete new part
    → Advances t round before now g new first part centre part answers → Advances t round before now g new first part first (part + 1) 0
part_done t round before now g new first centre part answers inside complete old start begun = record {
  calls = come.calls;
  stands = come.stands;
  at = next;
  count = sym (none_answered t round first (part + 1) come.calls next);
}
  where
    come : HasCome t round start now new first centre part answers
    come = old start begun

    next : IsAt t round first first (part + 1) come.calls
    next = at_next t round first centre part come.calls come.at (has_enough t round start now new come.calls come.stands part inside complete)

-- where all nodes were asked and the partition is not complete, it falls short
pub part_short : (t : Shape) (round : Round) (before now : Seen) (g new : Gathered) (first end centre part answers : ℕ) → IsSpan t round first end → centre ≡ end → part < t.partitions → (IsComplete new part → ⊥)
    → Advances t round before now g new first part centre part answers → Stops t round before now g first part (NoQuorum part answers)
part_short t round before now g new first end centre part answers span at_end inside missing old start begun = (
  inside,
  have_failed round.mode span.span needed,
  record {
    calls = come.calls;
    behind = come.stands.behind;
    in_turn = come.stands.in_turn;
    holds_of = record { earlier = come.at.earlier; missed = needed; count = come.count; all_asked = λ c may. all_asked round.mode span.span c may };
  },
)
  where
    come : HasCome t round start now new first centre part answers
    come = old start begun

    needed : HasEnough t round part come.calls → ⊥
    needed enough = missing (is_complete t round start now new come.calls come.stands part inside enough)

    all_asked : (mode : Mode) → IsSpanOf t round mode first end → (c : ℕ) → MayAsk t round mode c → was_asked c part come.calls ≡ true
    all_asked Quorum is c may = (come.at.here c).1 (omega (arith, is.0), omega (arith, is.1, may, at_end))
    all_asked One is c may = (come.at.here c).1 (omega (arith, is.0, may), omega (arith, is.1, may, at_end))

    risen : (c : ℕ) → was_asked c part come.calls ≡ true → has_replied c part come.calls ≡ false → Rose (start.faults c part) (now.faults c part)
    risen c asked none = come.stands.failed c part asked none

    have_failed : (mode : Mode) → IsSpanOf t round mode first end → (IsEnough t round.settler (replied_in t part come.calls) mode → ⊥) → HaveFailed t round mode part answers start.faults now.faults
    have_failed Quorum is few = (
      omega (arith, few, come.count),
      let cover = marked_cover (λ c. has_replied c part come.calls) (λ c. has_risen (start.faults c part) (now.faults c part)) t.centres
          (λ c less none. le-leb _ _ (risen c (all_asked Quorum is c less) none)) in
          omega (arith, cover, come.count),
    )
    have_failed One is few = (come.count ∙ marked_none (λ c. has_replied c part come.calls) t.centres (λ c less. other c (cases_Bool (was_asked c part come.calls))), risen round.settler (all_asked One is round.settler refl) own)
      where
        inside_span : round.settler < t.centres
        inside_span = omega (arith, is.1, span.within)

        unmarked : (b : Bool) → has_replied round.settler part come.calls ≡ b → has_replied round.settler part come.calls ≡ false
        unmarked true is_so = absurd (few (get_passing (λ c. has_replied c part come.calls) t.centres round.settler false inside_span ∙ is_so))
        unmarked false is_not = is_not

        own : has_replied round.settler part come.calls ≡ false
        own = unmarked (has_replied round.settler part come.calls) refl

        other : (c : ℕ) → (was_asked c part come.calls ≡ true) ⊎ (was_asked c part come.calls ≡ false) → has_replied c part come.calls ≡ false
        other c (inl asked) = let within = (come.at.here c).0 asked in
            let same : c ≡ round.settler = omega (arith, within.0, within.1, is.0, is.1, at_end) in
            ap (λ k. has_replied k part come.calls) same ∙ own
        other c (inr not) = replied_asked c part come.calls not

-- where the gathering had come to the partition, its error has its cause
pub stops_here : (t s : Shape) (round : Round) (start before now : Seen) (g : Gathered) (first part : ℕ) (error : HarvestError) → s ≡ t → HasCome t round start before g first first part 0
    → Stops s round before now g first part error → HasCause t round start.faults now.faults start.asked now.asked error
stops_here t s round start before now g first part error is come stops =
    subst (λ (x : Shape). HasCause x round start.faults now.faults start.asked now.asked error) is
    (stops start (subst (λ (x : Shape). HasCome x round start before g first first part 0) (sym is) come))

-- ---- the start

-- the marks of a fresh harvest are marks of its topology
fresh_marked : (t : Shape) (round : Round) → IsMarked t (fresh t round).answered
fresh_marked t round = record {
  partitions = length-replicate t.partitions (replicate t.centres false);
  centres = λ p less. ap length (get_or-replicate t.partitions p (replicate t.centres false) [] less) ∙ length-replicate t.centres false;
}

-- at the start no node has answered
fresh_answered : (t : Shape) (round : Round) (c p : ℕ) → has_answered (fresh t round) c p ≡ false
fresh_answered t round c p = by (cases_Bool (has_answered (fresh t round) c p))
  where
    by : (has_answered (fresh t round) c p ≡ true) ⊎ (has_answered (fresh t round) c p ≡ false) → has_answered (fresh t round) c p ≡ false
    by (inl is) = let within = answered_in t (fresh t round) c p (fresh_marked t round) is in
        ap (λ marks. get_or marks c false) (get_or-replicate t.partitions p (replicate t.centres false) [] within.1) ∙ get_or-replicate t.centres c false false within.0
    by (inr not) = not

-- no calls stand behind what was asked before
asked_none : (asked : Option (List Call)) → asked ≡ option_map (λ old. old ++ []) asked
asked_none None = refl
asked_none (Some old) = ap (λ (list : List Call). Some list) (sym (append-nil old))

-- before all calls the gathering is at the first node of the first partition
pub at_start : (t : Shape) (round : Round) (seen : Seen) (first : ℕ) → HasCome t round seen seen (fresh t round) first first 0 0
at_start t round seen first = record {
  calls = [];
  stands = record {
    topology_is = refl;
    round_is = refl;
    marked = fresh_marked t round;
    behind = asked_none seen.asked;
    in_turn = in_turn_none t round;
    gathered = λ c p. fresh_answered t round c p;
    inside = tt;
    booked = λ item among. absurd among;
    union = λ tells item. (λ among. absurd among, λ h. let none = fresh_answered t round h.centre h.part in let some = h.answered in absurd (cc));
    failed = λ c p asked none. absurd (cc);
    since = record { later = λ c p. omega arith; grows = λ item among. among; same = λ c p. refl };
  };
  at = at_first t round first;
  count = sym (none_answered t round first 0 [] (at_first t round first));
}
