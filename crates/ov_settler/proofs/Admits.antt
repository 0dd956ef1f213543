-- What a core tests of an entry, and when it may follow.
use Rattle.std.proofs.Common.{◌≡◌, ℕ, ◌+◌, ◌<◌, ◌^◌, IsTrue, ◌↔◌, Bool, Option, Some, None, List, refl, sym, ap, subst, ◌∙◌}
use Rattle.std.specs.Option.{option_map}
use Rattle.std.proofs.lemmas.Bool.{eq-eqb}
use Rattle.std.proofs.lemmas.Option.{same_Some}
use Rattle.ov_base.specs.declared.value.Value.{Value}
use Rattle.ov_functor.specs.declared.item.Item.{Item}
use Rattle.ov_functor.specs.declared.item.Valued.{Valued}
use Rattle.ov_topology.specs.declared.actor.Actor.{Actor}
use Rattle.ov_topology.specs.declared.mode.Mode.{Mode}
use Rattle.ov_topology.specs.declared.place.Place.{Place}
use Rattle.ov_event.specs.declared.letter.Letter.{Letter}
use Rattle.ov_event.specs.declared.letter.Letter.TheVariants as letters
use Rattle.ov_history.specs.Past.{History}
use Rattle.ov_history.specs.Letters.{letter}
use Rattle.ov_history.specs.Settlers as settlers
use Rattle.ov_history.specs.Settlers.{open_round, plan_values}
use Rattle.ov_history.specs.May.{Setting, MayAsk, MayTake, MaySettle}
use Rattle.ov_window.specs.Evaluation.{values_of}
use Rattle.ov_window.specs.Harvest.{Gathered, IsWhole}
use Rattle.ov_window.specs.Plan.{plan_over}
use Rattle.ov_window.specs.declared.plan.Task.{Task}
use Rattle.ov_settler.specs.Settler.{SettlerState, IsSettler, round_of}
use Rattle.ov_settler.specs.Calls.{IsOpen, upper_of, valued_tasks}
use Rattle.ov_settler.proofs.Takes.{current_is}
use Rattle.ov_settler.proofs.Settles.{gathers, enough_where, complete_where, values_is}
use Rattle.ov_settler.proofs.Watermarks.{upper_is}

-- ---- rounds

-- What a core tests of a round: it is the next one, from where the core has settled up to its watermark, which is above.
pub record Next (s : SettlerState) (round : ℕ) (mode : Mode) (from below : ℕ) : Type 0 where
  pub next : round ≡ s.rounds + 1
  pub held : round < 2 ^ 64
  pub from_is : from ≡ s.settled
  pub below_is : below ≡ upper_of s.vector mode
  pub some : from < below

-- such a round may be opened
pub next_may : (t : Setting) (h : History) (actor : Actor) (s : SettlerState) (round : ℕ) (mode : Mode) (from below : ℕ) → IsSettler t h actor s → Next s round mode from below → MayAsk t.topology h s.centre round mode from below
next_may t h actor s round mode from below is next = record {
  next = next.next ∙ ap (λ n. n + 1) is.rounds_are;
  held = next.held;
  from_is = next.from_is ∙ is.settled_is;
  below_is = next.below_is ∙ upper_is t h actor s mode is;
  some = next.some;
}

-- and no other
pub may_next : (t : Setting) (h : History) (actor : Actor) (s : SettlerState) (round : ℕ) (mode : Mode) (from below : ℕ) → IsSettler t h actor s → MayAsk t.topology h s.centre round mode from below → Next s round mode from below
may_next t h actor s round mode from below is may = record {
  next = may.next ∙ ap (λ n. n + 1) (sym is.rounds_are);
  held = may.held;
  from_is = may.from_is ∙ sym is.settled_is;
  below_is = may.below_is ∙ sym (upper_is t h actor s mode is);
  some = may.some;
}

-- ---- answers

-- an answer may be taken where the letter is it and the round is open
pub take_iff : (t : Setting) (h : History) (actor : Actor) (s : SettlerState) (place : Place) (round c p : ℕ) (items : List Item) (o : Option Letter) (b : Bool) → IsSettler t h actor s → o ≡ letter t.topology h place
    → (IsTrue b ↔ ((o ≡ Some (letters.Answer s.centre round c p items)) × IsOpen s round)) → IsTrue b ↔ MayTake t.topology h place s.centre round c p items
take_iff t h actor s place round c p items o b is there test = (
  λ passes. make (test.0 passes),
  λ may. test.1 (there ∙ may.sent.there, opened may s.harvest refl),
)
  where
    make : (o ≡ Some (letters.Answer s.centre round c p items)) × IsOpen s round → MayTake t.topology h place s.centre round c p items
    make both = record {
      sent = record { there = sym there ∙ both.0; addressed = eq-eqb s.centre s.centre refl };
      current = round_of s.rounds both.1.harvest;
      current_is = current_is t h actor s both.1.harvest is both.1.open_is;
      same = both.1.current;
    }

    opened : MayTake t.topology h place s.centre round c p items → (held : Option Gathered) → s.harvest ≡ held → IsOpen s round
    opened may None held = let none = sym (ap (option_map (round_of s.rounds)) held) ∙ (is.round_is ∙ may.current_is) in absurd cc
    opened may (Some one) held =
        let same : round_of s.rounds one ≡ may.current = same_Some _ _ (sym (current_is t h actor s one is held) ∙ may.current_is) in
        record { harvest = one; open_is = held; current = may.same ∙ ap (λ (r : settlers.Round). r.number) (sym same) }

-- ---- settled values

-- where no round is open, or its harvest is not whole, nothing may be settled
pub open_whole : (t : Setting) (h : History) (actor : Actor) (s : SettlerState) (values : List Valued) → IsSettler t h actor s → MaySettle t.topology h s.centre values → (one : Gathered) × (s.harvest ≡ Some one) × IsWhole one
open_whole t h actor s values is may = by s.harvest refl
  where
    by : (held : Option Gathered) → s.harvest ≡ held → (one : Gathered) × (s.harvest ≡ Some one) × IsWhole one
    by None held = let none = sym (ap (option_map (round_of s.rounds)) held) ∙ (is.round_is ∙ may.current_is) in absurd cc
    by (Some one) held =
        let same : may.current ≡ round_of s.rounds one = same_Some _ _ (sym may.current_is ∙ current_is t h actor s one is held) in (
          one,
          held,
          λ p within.
              let inside : p < t.topology.partitions = rw (sym (gathers t h actor s one is held).topology_is) within in
              complete_where t h actor s one is held p inside (subst (λ (r : settlers.Round). settlers.IsEnough t.topology s.centre r p h r.mode) same (may.enough p inside)),
        )

-- values may be settled where they are those of the plan
pub settle_iff : (t : Setting) (h : History) (actor : Actor) (s : SettlerState) (one : Gathered) (plan : List Task) (computed : List Value) (values : List Valued) (b : Bool) → IsSettler t h actor s → s.harvest ≡ Some one → IsWhole one
    → plan ≡ plan_over s.values one → computed ≡ values_of plan → (IsTrue b ↔ (values ≡ valued_tasks plan computed)) → IsTrue b ↔ MaySettle t.topology h s.centre values
settle_iff t h actor s one plan computed values b is held whole planned evaluated test =
    let all = values_is t h actor s one is held plan computed planned evaluated in (
      λ passes. record {
        current = round_of s.rounds one;
        current_is = current_is t h actor s one is held;
        enough = λ p within. enough_where t h actor s one is held p within (whole p (rw (gathers t h actor s one is held).topology_is within));
        values_are = test.0 passes ∙ all;
      },
      λ may.
          let same : may.current ≡ round_of s.rounds one = same_Some _ _ (sym may.current_is ∙ current_is t h actor s one is held) in
          test.1 (may.values_are ∙ (ap (λ r. plan_values s.centre r h) same ∙ sym all)),
    )
