-- A settler that takes an answer.
use Rattle.std.proofs.Common.{◌≡◌, ◌≢◌, ℕ, ◌<◌, ◌⊎◌, Bool, true, false, ◌==◌, ◌&&◌, ◌||◌, Some, List, [], ◌∷◌, get_or, refl, sym, ap, subst, ◌∙◌, arith, inl, inr}
use Rattle.std.specs.Prelude.{slice_set}
use Rattle.std.specs.Option.{option_map}
use Rattle.std.proofs.lemmas.Bool.{cases_Bool, eq-eqb, eqb-true, and_parts, false_from_ne_true}
use Rattle.std.proofs.lemmas.Bool.Decides.{eqb_tells}
use Rattle.std.proofs.lemmas.List.{get_or-set_same, get_or-set_other}
use Rattle.std.proofs.lemmas.Option.{same_Some}
use Rattle.ov_base.proofs.Lists.{all_appended}
use Rattle.ov_functor.specs.Unions.{is_inside, all_added}
use Rattle.ov_functor.specs.declared.item.Item.{Item}
use Rattle.ov_topology.specs.declared.actor.Actor.{Actor}
use Rattle.ov_topology.specs.declared.place.Place.{Place}
use Rattle.ov_event.specs.declared.kind.Kind.{Kind}
use Rattle.ov_event.specs.declared.kind.Kind.TheVariants.{Taken}
use Rattle.ov_event.specs.declared.letter.Letter.TheVariants as letters
use Rattle.ov_history.specs.Past.{History}
use Rattle.ov_history.specs.Letters.{letter}
use Rattle.ov_history.specs.Settlers.{takes, took, open_round}
use Rattle.ov_history.specs.Gives.{Take, settler_takes}
use Rattle.ov_history.specs.May.{Setting}
use Rattle.ov_history.specs.Cores.{Steps}
use Rattle.ov_window.specs.Harvest.{Gathered, IsMarked, has_answered, marks_of, with_answer}
use Rattle.ov_window.proofs.Marks.{marked_more}
use Rattle.ov_window.proofs.Gathering.{added_behind}
use Rattle.ov_settler.specs.Settler.{SettlerState, Gathers, IsAnswer, IsSettler, IsSound, is_taken, round_of}
use Rattle.ov_settler.specs.Calls.{Awaits, answered_by, gathered_by}
use Rattle.ov_settler.proofs.Stands.{by_settler, took_more, harvest_more, nothing_more, some_steps, letter_given}

-- ---- one more answer

eqb_apart : (a b : ℕ) → a ≢ b → (a == b) ≡ false
eqb_apart a b apart = false_from_ne_true (a == b) (λ same. apart (eqb-true a b same))

-- after an answer of a node that node has answered, and each other as it had
answered_more : (one : Gathered) (c p : ℕ) (items : List Item) → IsMarked one.topology one.answered → c < one.topology.centres → p < one.topology.partitions
    → (d q : ℕ) → has_answered (with_answer one c p items) d q ≡ (((c == d) && (p == q)) || has_answered one d q)
answered_more one c p items marked inside within d q =
    elim (eqb_tells p q) [
      | inl same ↦ elim (eqb_tells c d) [
        | inl here ↦ rw (here.0, same.0, sym same.1, sym here.1) (ap (λ marks. get_or marks c false) row ∙ get_or-set_same (marks_of one p) c true false (omega (arith, inside, marked.centres p within)))
        | inr there ↦ rw (there.0, sym same.1) (ap (λ marks. get_or marks d false) row ∙ get_or-set_other (marks_of one p) c d true false (λ is. there.1 (sym is)))
      ]
      | inr other ↦ rw other.0 (ap (λ marks. get_or marks d false) (get_or-set_other one.answered p q (slice_set (marks_of one p) c true) [] (λ is. other.1 (sym is))) ∙ by (c == d))
    ]
  where
    row : get_or (slice_set one.answered p (slice_set (marks_of one p) c true)) p [] ≡ slice_set (marks_of one p) c true
    row = get_or-set_same one.answered p (slice_set (marks_of one p) c true) [] (omega (arith, within, marked.partitions))

    by : (b : Bool) → has_answered one d q ≡ ((b && false) || has_answered one d q)
    by true = refl
    by false = refl

-- ---- the harvest after an answer

module _ (t : Setting) (h : History) (s : SettlerState) (place : Place) (c p : ℕ) (items : List Item) (one : Gathered) (is : Gathers t.topology h s one) (sound : IsAnswer t.topology one c p items) where
  abbrev taken : Kind
  taken = Taken place s.rounds c p items

  abbrev more : History
  more = by_settler s.centre taken ∷ h

  -- the answer of a node that has answered
  again : has_answered one c p ≡ true → Gathers t.topology more (gathered_by c p items s) one
  again yet =
      let told : took s.centre s.rounds c p h ≡ true = sym (is.answers_are c p sound.centre_in sound.part_in) ∙ yet in record {
        topology_is = is.topology_is;
        settler_is = is.settler_is;
        from_is = is.from_is;
        some = is.some;
        marked = is.marked;
        answers_are = λ d q inside within. is.answers_are d q inside within ∙ sym (took_more s.centre taken h s.rounds d q ∙ old told d q (cases_Bool (takes s.rounds d q taken)));
        items_are = is.items_are ∙ sym (harvest_more s.centre taken h s.rounds ∙ (rw (eq-eqb s.rounds s.rounds refl, told) refl));
        inside = is.inside;
      }
    where
      old : took s.centre s.rounds c p h ≡ true → (d q : ℕ) → (takes s.rounds d q taken ≡ true) ⊎ (takes s.rounds d q taken ≡ false) → (takes s.rounds d q taken || took s.centre s.rounds d q h) ≡ took s.centre s.rounds d q h
      old told d q (inl passes) =
          let parts = and_parts (s.rounds == s.rounds) ((c == d) && (p == q)) passes in
          let tests = and_parts (c == d) (p == q) parts.1 in
          rw (passes, sym (eqb-true c d tests.0), sym (eqb-true p q tests.1)) (sym told)
      old told d q (inr other) = rw other refl

  -- the first answer of a node
  first : has_answered one c p ≡ false → Gathers t.topology more (gathered_by c p items s) (with_answer one c p items)
  first yet =
      let told : took s.centre s.rounds c p h ≡ false = sym (is.answers_are c p sound.centre_in sound.part_in) ∙ yet in
      let inside' : c < one.topology.centres = rw is.topology_is sound.centre_in in
      let within' : p < one.topology.partitions = rw is.topology_is sound.part_in in record {
        topology_is = is.topology_is;
        settler_is = is.settler_is;
        from_is = is.from_is;
        some = is.some;
        marked = marked_more one.topology one.answered p c is.marked within';
        answers_are = λ d q inside within.
            answered_more one c p items is.marked inside' within' d q
            ∙ ap (λ b. ((c == d) && (p == q)) || b) (is.answers_are d q inside within)
            ∙ sym (took_more s.centre taken h s.rounds d q ∙ (rw (eq-eqb s.rounds s.rounds refl) refl));
        items_are = added_behind one.items items [] ∙ (ap (all_added items) is.items_are ∙ sym (harvest_more s.centre taken h s.rounds ∙ (rw (eq-eqb s.rounds s.rounds refl, told) refl)));
        inside = all_appended (λ (item : Item). is_inside one.round.from one.round.below item ≡ true) one.items items is.inside sound.inside;
      }

  pub gathers_more : Gathers t.topology more (gathered_by c p items s) (answered_by c p items one)
  gathers_more =
      elim (cases_Bool (has_answered one c p)) [
        | inl yet ↦ rw yet (again yet)
        | inr yet ↦ rw yet (first yet)
      ]

-- an answer leaves the round of a harvest
round_same : (n c p : ℕ) (items : List Item) (one : Gathered) → round_of n (answered_by c p items one) ≡ round_of n one
round_same n c p items one = elim (cases_Bool (has_answered one c p)) [ inl yet ↦ rw yet refl | inr yet ↦ rw yet refl ]

-- ---- the call

-- an answer is to the open round exactly where its number is that of the core
pub current_is : (t : Setting) (h : History) (actor : Actor) (s : SettlerState) (one : Gathered) → IsSettler t h actor s → s.harvest ≡ Some one → open_round s.centre h ≡ Some (round_of s.rounds one)
current_is t h actor s one is there = sym is.round_is ∙ ap (option_map (round_of s.rounds)) there

pub take_steps : (t : Setting) (h : History) (actor : Actor) (s : SettlerState) (place : Place) (settler round c p : ℕ) (items : List Item) → IsSettler t h actor s → letter t.topology h place ≡ Some (letters.Answer settler round c p items)
    → IsSound s (letters.Answer settler round c p items) → s.stopped ≡ false → Awaits s settler round c p
    → Steps IsSettler is_taken t h actor (Take place) (Some (by_settler s.centre (Taken place round c p items))) (gathered_by c p items s)
take_steps t h actor s place settler round c p items is there sound running awaits =
    let one = awaits.harvest in
    let held = awaits.open_is in
    let current = current_is t h actor s one is held in
    let takes_it : settler_takes h s.centre place (letters.Answer settler round c p items) ≡ Some (Taken place round c p items) = rw (current, eq-eqb s.rounds round (sym awaits.current)) refl in
    let given = letter_given is_taken t h actor s place (letters.Answer settler round c p items) (Taken place round c p items) is running there (eq-eqb s.centre settler (sym awaits.own)) takes_it refl in
    let answer : IsAnswer t.topology one c p items = subst (λ shape. IsAnswer shape one c p items) is.topology_is (sound awaits.own awaits.current one held) in
    let after : Gathers t.topology (by_settler s.centre (Taken place round c p items) ∷ h) (gathered_by c p items s) (answered_by c p items one) =
    subst (λ n. Gathers t.topology (by_settler s.centre (Taken place n c p items) ∷ h) (gathered_by c p items s) (answered_by c p items one)) (sym awaits.current) (gathers_more t h s place c p items one (is.gathers one held) answer) in
    let now : (gathered_by c p items s).harvest ≡ Some (answered_by c p items one) = ap (option_map (answered_by c p items)) held in
    some_steps is_taken t h actor (Take place) s (gathered_by c p items s) (Taken place round c p items) is given (record {
      stopped_is = refl;
      width = refl;
      marks_are = λ k less. nothing_more _;
      rounds_are = omega arith;
      settled_is = refl;
      round_is = ap (option_map (round_of s.rounds)) now ∙ (ap Some (round_same s.rounds c p items one) ∙ sym current);
      gathers = λ it is_it. subst (Gathers t.topology (by_settler s.centre (Taken place round c p items) ∷ h) (gathered_by c p items s)) (same_Some _ _ (sym now ∙ is_it)) after;
      later = λ n d q past. rw (eqb_apart round n (λ same. omega (arith, past, same, awaits.current))) (is.later n d q past);
      values_are = is.values_are;
      under = is.under;
    })
