-- A gathering after one call more.
use Rattle.std.proofs.Common.{◌≡◌, ◌≢◌, ◌==◌, ℕ, ◌+◌, ◌≤◌, ◌<◌, Bool, true, false, ◌&&◌, ◌||◌, ◌⊎◌, inl, inr, Option, Some, None, List, [], ◌∷◌, ◌++◌, get_or, refl, sym, ap, subst, ◌∙◌, arith}
use Rattle.std.specs.Prelude.{slice_set}
use Rattle.std.specs.Option.{option_map}
use Rattle.std.proofs.lemmas.Bool.{cases_Bool, eqb-true, false_from_ne_true}
use Rattle.std.proofs.lemmas.Bool.Decides.{eqb_tells}
use Rattle.std.proofs.lemmas.Grind.{common_steps}
use Rattle.std.proofs.lemmas.List.{append_assoc, get_or-set_same, get_or-set_other}
use Rattle.ov_base.proofs.Lists.{all_appended}
use Rattle.ov_functor.specs.Unions.{is_inside}
use Rattle.ov_functor.specs.Windows.{Among}
use Rattle.ov_functor.specs.declared.item.Item.{Item}
use Rattle.ov_functor.proofs.Among.{among_back, among_either, among_front}
use Rattle.ov_topology.specs.Shape.{Shape}
use Rattle.ov_window.specs.Harvest.{Gathered, IsComplete, IsEnough, IsMarked, has_answered, marks_of, with_answer}
use Rattle.ov_window.specs.declared.round.Round.{Round}
use Rattle.ov_window.proofs.Marks.{marked_more}
use Rattle.ov_link.specs.Calls.{HasEnough, IsNext, WasAsked, call_of, has_replied, is_of, replied_in, was_asked}
use Rattle.ov_link.specs.Gathering.{IsHeld, IsUnionOf}
use Rattle.ov_link.specs.Links.{AreAmong, AreInside, IsTold, Rose, TellsAll, in_window}
use Rattle.ov_link.specs.Progress.{IsLater, Seen, Stands}
use Rattle.ov_link.specs.declared.link.Call.{Call}
use Rattle.ov_link.proofs.Counts.{asked_stays, call_is, own_call, replied_failed, replied_more, replied_now, replied_stays, rose_earlier, rose_later}
use Rattle.ov_link.proofs.Passing.{marks_passing}
use Rattle.ov_link.proofs.Turns.{in_turn_more}

-- ---- links

-- a link that was seen later than one that was seen later is later
pub later_still : (a b c : Seen) → IsLater a b → IsLater b c → IsLater a c
later_still a b c one two = record {
  later = λ k p. let left = one.later k p in let right = two.later k p in omega (arith, left, right);
  grows = λ item among. two.grows item (one.grows item among);
  same = λ k p. two.same k p ∙ one.same k p;
}

-- calls and one more stand behind what was asked before
asked_behind : (start before now : Option (List Call)) (calls : List Call) (call : Call) → before ≡ option_map (λ old. old ++ calls) start
    → now ≡ option_map (λ old. old ++ call ∷ []) before → now ≡ option_map (λ old. old ++ (calls ++ call ∷ [])) start
asked_behind None before now calls call is more = more ∙ ap (option_map (λ (old : List Call). old ++ call ∷ [])) is
asked_behind (Some old) before now calls call is more =
    more ∙ ap (option_map (λ (list : List Call). list ++ call ∷ [])) is ∙ ap (λ (list : List Call). Some list) (append_assoc old calls (call ∷ []))

-- ---- answers

eqb_apart : (a b : ℕ) → a ≢ b → (a == b) ≡ false
eqb_apart a b apart = false_from_ne_true (a == b) (λ same. apart (eqb-true a b same))

-- after an answer of a node that node has answered, and each other as it had
answered_more : (t : Shape) (g : Gathered) (c p : ℕ) (items : List Item) → IsMarked t g.answered → c < t.centres → p < t.partitions
    → (d q : ℕ) → has_answered (with_answer g c p items) d q ≡ (has_answered g d q || is_of d q (call_of c p true))
answered_more t g c p items marked inside within d q =
    elim (eqb_tells p q) [
      | inl same ↦ elim (eqb_tells c d) [
        | inl here ↦ rw (here.0, same.0, sym same.1, sym here.1) (ap (λ marks. get_or marks c false) row ∙ get_or-set_same (marks_of g p) c true false (omega (arith, inside, marked.centres p within)) ∙ sym (or_true (has_answered g c p)))
        | inr there ↦ rw (there.0, sym same.1) (ap (λ marks. get_or marks d false) row ∙ get_or-set_other (marks_of g p) c d true false (λ is. there.1 (sym is)) ∙ sym (or_false (has_answered g d p)))
      ]
      | inr other ↦ rw other.0 (ap (λ marks. get_or marks d false) (get_or-set_other g.answered p q (slice_set (marks_of g p) c true) [] (λ is. other.1 (sym is))) ∙ by (c == d))
    ]
  where
    row : get_or (slice_set g.answered p (slice_set (marks_of g p) c true)) p [] ≡ slice_set (marks_of g p) c true
    row = get_or-set_same g.answered p (slice_set (marks_of g p) c true) [] (omega (arith, within, marked.partitions))

    or_true : (b : Bool) → (b || true) ≡ true
    or_true true = refl
    or_true false = refl

    or_false : (b : Bool) → (b || false) ≡ b
    or_false true = refl
    or_false false = refl

    by : (b : Bool) → has_answered g d q ≡ (has_answered g d q || (b && false))
    by true = sym (or_false (has_answered g d q))
    by false = sym (or_false (has_answered g d q))

-- what is told of a node is the answer's origin
told_window : (round : Round) (told : Option (List Item)) (held items : List Item) → told ≡ Some held → IsTold told round items → items ≡ in_window round held
told_window round told held items is tells = subst (λ (o : Option (List Item)). IsTold o round items) is tells

-- ---- enough

-- answers that are enough stay so where all is the same
same_enough : (t s : Shape) (round other : Round) (marks others : List Bool) → t ≡ s → round ≡ other → marks ≡ others → IsEnough t round.settler marks round.mode → IsEnough s other.settler others other.mode
same_enough t s round other marks others shape_is round_is marks_is enough =
    subst (λ (x : Shape). IsEnough x other.settler others other.mode) shape_is
    (subst (λ (x : Round). IsEnough t x.settler others x.mode) round_is (subst (λ (x : List Bool). IsEnough t round.settler x round.mode) marks_is enough))

module _ (t : Shape) (round : Round) (start before : Seen) (g : Gathered) (calls : List Call) (stands : Stands t round start before g calls) where
  -- the marks of a partition are those of its nodes that have answered
  marks_are : (part : ℕ) → part < t.partitions → marks_of g part ≡ replied_in t part calls
  marks_are part less = marks_passing (λ c. has_replied c part calls) t.centres (marks_of g part) (stands.marked.centres part less) (λ c under. stands.gathered c part)

  -- a partition that is complete has given enough
  pub has_enough : (part : ℕ) → part < t.partitions → IsComplete g part → HasEnough t round part calls
  has_enough part less complete = same_enough g.topology t g.round round (marks_of g part) (replied_in t part calls) stands.topology_is stands.round_is (marks_are part less) complete

  -- a partition that has given enough is complete
  pub is_complete : (part : ℕ) → part < t.partitions → HasEnough t round part calls → IsComplete g part
  is_complete part less enough = same_enough t g.topology round g.round (replied_in t part calls) (marks_of g part) (sym stands.topology_is) (sym stands.round_is) (sym (marks_are part less)) enough

  module _ (now : Seen) (centre part : ℕ) (within : centre < t.centres) (inside : part < t.partitions) (later : IsLater before now) where
    -- what the gathering has after an answer is the union of what the nodes hold that answered
    union_more : (items : List Item) → TellsAll t start.told → IsTold (before.told centre part) round items → IsUnionOf start.told (with_answer g centre part items)
    union_more items tells told item = (λ among. comes (among_either item g.items items among), back)
      where
        more : (c p : ℕ) → has_answered (with_answer g centre part items) c p ≡ (has_answered g c p || is_of c p (call_of centre part true))
        more c p = answered_more t g centre part items stands.marked within inside c p

        window : (held : List Item) → start.told centre part ≡ Some held → items ≡ in_window g.round held
        window held is = told_window round (before.told centre part) held items (stands.since.same centre part ∙ is) told ∙ ap (λ (r : Round). in_window r held) (sym stands.round_is)

        comes : Among item g.items ⊎ Among item items → IsHeld start.told (with_answer g centre part items) item
        comes (inl here) = let old = (stands.union tells item).0 here in record {
          centre = old.centre;
          part = old.part;
          answered = more old.centre old.part ∙ ap (λ b. b || is_of old.centre old.part (call_of centre part true)) old.answered;
          held = old.held;
          held_is = old.held_is;
          within = old.within;
        }
        comes (inr there) = let held = tells centre part within inside in record {
          centre = centre;
          part = part;
          answered = more centre part ∙ ap (λ b. has_answered g centre part || b) (own_call centre part true) ∙ or_true (has_answered g centre part);
          held = held.0;
          held_is = held.1;
          within = subst (λ (list : List Item). Among item list) (window held.0 held.1) there;
        }
          where
            or_true : (b : Bool) → (b || true) ≡ true
            or_true true = refl
            or_true false = refl

        from : (h : IsHeld start.told (with_answer g centre part items) item) → (b : Bool) → is_of h.centre h.part (call_of centre part true) ≡ b → Among item (g.items ++ items)
        from h true is =
            let node = call_is centre part h.centre h.part true is in
            let told_is : start.told centre part ≡ Some h.held = ap (λ k. start.told k part) (sym node.0) ∙ ap (λ k. start.told h.centre k) (sym node.1) ∙ h.held_is in
            among_back item g.items items (subst (λ (list : List Item). Among item list) (sym (window h.held told_is)) h.within)
        from h false is =
            let new = more h.centre h.part in
            let answered = h.answered in
            let old : has_answered g h.centre h.part ≡ true = was (has_answered g h.centre h.part) (is_of h.centre h.part (call_of centre part true)) is (sym new ∙ answered) in
            among_front item g.items items ((stands.union tells item).1 (record { centre = h.centre; part = h.part; answered = old; held = h.held; held_is = h.held_is; within = h.within }))
          where
            was : (a b : Bool) → b ≡ false → (a || b) ≡ true → a ≡ true
            was true b none some = refl
            was false b none some = absurd (cc)

        back : IsHeld start.told (with_answer g centre part items) item → Among item (g.items ++ items)
        back h = from h (is_of h.centre h.part (call_of centre part true)) refl

    -- after a call that was answered
    pub stands_answered : (items : List Item) → IsNext t round calls (call_of centre part true) → WasAsked centre part true before.asked now.asked → IsTold (before.told centre part) round items
        → AreInside round items → AreAmong items now.book → Stands t round start now (with_answer g centre part items) (calls ++ call_of centre part true ∷ [])
    stands_answered items next noted told lies booked = record {
      topology_is = stands.topology_is;
      round_is = stands.round_is;
      marked = marked_more t g.answered part centre stands.marked inside;
      behind = asked_behind start.asked before.asked now.asked calls (call_of centre part true) stands.behind noted;
      in_turn = in_turn_more t round calls (call_of centre part true) stands.in_turn next;
      gathered = λ c p. answered_more t g centre part items stands.marked within inside c p ∙ ap (λ b. b || is_of c p (call_of centre part true)) (stands.gathered c p) ∙ sym (replied_more c p calls (call_of centre part true));
      inside = all_appended (λ (item : Item). is_inside round.from round.below item ≡ true) g.items items stands.inside lies;
      booked = λ item among. both item (among_either item g.items items among);
      union = λ tells. union_more items tells told;
      failed = λ c p asked none. failed c p asked none (is_of c p (call_of centre part true)) refl;
      since = later_still start before now stands.since later;
    }
      where
        both : (item : Item) → Among item g.items ⊎ Among item items → Among item now.book
        both item (inl here) = later.grows item (stands.booked item here)
        both item (inr there) = booked item there

        failed : (c p : ℕ) → was_asked c p (calls ++ call_of centre part true ∷ []) ≡ true → has_replied c p (calls ++ call_of centre part true ∷ []) ≡ false
            → (b : Bool) → is_of c p (call_of centre part true) ≡ b → Rose (start.faults c p) (now.faults c p)
        failed c p asked none true is = let some = replied_now c p calls (call_of centre part true) refl is in absurd (cc)
        failed c p asked none false is =
            rose_later (start.faults c p) (before.faults c p) (now.faults c p)
            (stands.failed c p (sym (asked_stays c p calls (call_of centre part true) is) ∙ asked) (sym (replied_stays c p calls (call_of centre part true) is) ∙ none)) (later.later c p)

    -- after a call that failed
    pub stands_failed : IsNext t round calls (call_of centre part false) → WasAsked centre part false before.asked now.asked → Rose (before.faults centre part) (now.faults centre part)
        → Stands t round start now g (calls ++ call_of centre part false ∷ [])
    stands_failed next noted rose = record {
      topology_is = stands.topology_is;
      round_is = stands.round_is;
      marked = stands.marked;
      behind = asked_behind start.asked before.asked now.asked calls (call_of centre part false) stands.behind noted;
      in_turn = in_turn_more t round calls (call_of centre part false) stands.in_turn next;
      gathered = λ c p. stands.gathered c p ∙ sym (replied_failed c p calls (call_of centre part false) refl);
      inside = stands.inside;
      booked = λ item among. later.grows item (stands.booked item among);
      union = stands.union;
      failed = λ c p asked none. failed c p asked none (is_of c p (call_of centre part false)) refl;
      since = later_still start before now stands.since later;
    }
      where
        failed : (c p : ℕ) → was_asked c p (calls ++ call_of centre part false ∷ []) ≡ true → has_replied c p (calls ++ call_of centre part false ∷ []) ≡ false
            → (b : Bool) → is_of c p (call_of centre part false) ≡ b → Rose (start.faults c p) (now.faults c p)
        failed c p asked none true is =
            let node = call_is centre part c p false is in
            let risen : Rose (before.faults c p) (now.faults c p) = subst (λ k. Rose (before.faults k p) (now.faults k p)) (sym node.0) (subst (λ k. Rose (before.faults centre k) (now.faults centre k)) (sym node.1) rose) in
            rose_earlier (start.faults c p) (before.faults c p) (now.faults c p) (stands.since.later c p) risen
        failed c p asked none false is =
            rose_later (start.faults c p) (before.faults c p) (now.faults c p)
            (stands.failed c p (sym (asked_stays c p calls (call_of centre part false) is) ∙ asked) (sym (replied_stays c p calls (call_of centre part false) is) ∙ none)) (later.later c p)
