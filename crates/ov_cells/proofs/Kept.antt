-- Each step keeps the rule of the words.
use Rattle.std.proofs.Common.{◌≡◌, ℕ, zero, suc, ◌+◌, ◌<◌, ◌≤◌, ◌≢◌, ◌⊎◌, true, List, [], ◌∷◌, ◌++◌, length, get_or, set, sym, refl, ap, ◌∙◌, subst, inl, inr, ⊎_elim, arith, length-set, get_or-set_other, get_or-set_same}
use mathlib.Core.Option.{some, some-ne-none, some-injective}
use mathlib.Core.Logic.{dite}
use native.Mathlib.Decide.{ℕ_discrete}
use lib.ListN.{get_elem?}
use lib.Seq.{set-get_or}
use Rattle.atomic_table.proofs.Lists.{at_set, set_else, at_snoc, at_longer}
use Rattle.ov_base.specs.declared.value.Value.{Value}
use Rattle.ov_cells.specs.declared.rule.View.{View}
use Rattle.ov_cells.specs.Rules.{has, learn, fresh, all_parts, learnt, left_half, right_half, joined, spent, total, word_at, value_among, IsCodeOf, IsSound, IsKnown, IsKept}
use Rattle.ov_cells.proofs.Codes.{code_some}
use Rattle.ov_cells.proofs.Known.{learn_has, learn_keeps, learn_either, merge_left, merge_right, merge_either}

-- ---- the views

-- what all parts are after one view changed
total_set : (views : List View) (id : ℕ) (v w : View) → get_elem? views id ≡ some v → total (set views id w) + v.parts ≡ total views + w.parts
total_set [] id v w e = absurd (some-ne-none v (sym e))
total_set (x ∷ xs) zero v w e = let h : x.parts ≡ v.parts = ap (λ (z : View). z.parts) (some-injective x v e) in omega arith
total_set (x ∷ xs) (suc id) v w e = let h = total_set xs id v w e in omega arith

total_snoc : (views : List View) (w : View) → total (views ++ w ∷ []) ≡ total views + w.parts
total_snoc [] w = omega arith
total_snoc (x ∷ xs) w = let h = total_snoc xs w in omega arith

-- two seats have no more parts than all
total_two : (views : List View) (i k : ℕ) (v u : View) → k ≢ i → get_elem? views i ≡ some v → get_elem? views k ≡ some u → v.parts + u.parts ≤ total views
total_two views i k v u ne at there =
    let a = total_set views i v spent at in
    let there' : get_elem? (set views i spent) k ≡ some u = set_else views i k spent ne ∙ there in
    let b = total_set (set views i spent) k u spent there' in omega arith

-- no seat has more parts than there are
pub parts_within : (views : List View) (id : ℕ) (v : View) → get_elem? views id ≡ some v → v.parts ≤ total views
parts_within views id v at = let a = total_set views id v spent at in omega arith

set_at : {A : Type 0} (l : List A) (i : ℕ) (a b : A) → get_elem? l i ≡ some b → get_elem? (set l i a) i ≡ some a
set_at [] i a b e = absurd (some-ne-none b (sym e))
set_at (x ∷ xs) zero a b e = refl
set_at (x ∷ xs) (suc i) a b e = set_at xs i a b e

-- what holds of the changed view and of the others holds of all
seats_stay : (P : View → Type 0) (views : List View) (id : ℕ) (w : View) → P w → ((k : ℕ) (u : View) → get_elem? views k ≡ some u → P u)
    → (k : ℕ) (u : View) → get_elem? (set views id w) k ≡ some u → P u
seats_stay P views id w mine others k u e = ⊎_elim (λ (t : (k ≡ id) × (w ≡ u)). subst P t.1 mine) (λ (t : (k ≢ id) × (get_elem? views k ≡ some u)). others k u t.1) (at_set views id k w u e)

-- what was told is told still, where the changed view knows no less
told_stays : (views : List View) (id : ℕ) (v w : View) (place : ℕ) → get_elem? views id ≡ some v → (has v.known place ≡ true → has w.known place ≡ true) → IsKnown views place → IsKnown (set views id w) place
told_stays views id v w place at more (k, u, there, h) = dite (ℕ_discrete k id)
    (λ e. let same : v ≡ u = some-injective v u (sym at ∙ subst (λ z. get_elem? views z ≡ some u) e there) in
    (id, w, set_at views id w v at, more (subst (λ (z : View). has z.known place ≡ true) (sym same) h)))
    (λ ne. (k, u, set_else views id k w ne ∙ there, h))

-- ---- the words

-- a place's word after another word changed
word_other : (words : List ℕ) (place other c : ℕ) → other ≢ place → word_at (set words (place + 1) c) other ≡ word_at words other
word_other words place other c ne = get_or-set_other words (place + 1) (other + 1) c 0 (λ (e : other + 1 ≡ place + 1). ne (omega arith))

word_same : (words : List ℕ) (place c : ℕ) → place + 1 < length words → word_at (set words (place + 1) c) place ≡ c
word_same words place c inside = get_or-set_same words (place + 1) c 0 inside

-- no word becomes 0
stays_set : (words : List ℕ) (place c other : ℕ) → place + 1 < length words → c ≢ 0 → word_at words other ≢ 0 → word_at (set words (place + 1) c) other ≢ 0
stays_set words place c other inside some_code filled = dite (ℕ_discrete other place)
    (λ e. subst (λ (z : ℕ). word_at (set words (place + 1) c) z ≢ 0) (sym e) (λ z. some_code (sym (word_same words place c inside) ∙ z)))
    (λ ne. λ z. filled (sym (word_other words place other c ne) ∙ z))

module _ (values : List Value) where
  -- ---- steps that change no word

  -- one view changes, and knows no less
  unmoved : (words : List ℕ) (views : List View) (id : ℕ) (v w : View) → IsKept values words views → get_elem? views id ≡ some v → w.parts ≡ v.parts → IsSound values words w
      → ((place : ℕ) → has v.known place ≡ true → has w.known place ≡ true) → IsKept values words (set views id w)
  unmoved words views id v w r at parts sound more = record {
    wide = r.wide;
    spare = r.spare;
    each = r.each;
    seat = seats_stay (IsSound values words) views id w sound r.seat;
    told = λ place filled. told_stays views id v w place at (more place) (r.told place filled);
    whole = let a = total_set views id v w at in let b = r.whole in omega arith;
  }

  -- a word is written again as it was
  pub same_words : (words : List ℕ) (i : ℕ) (views : List View) → IsKept values words views → IsKept values (set words i (get_or words i 0)) views
  same_words words i views r = subst (λ ws. IsKept values ws views) (sym (set-get_or words i 0)) r

  pub same_view : (words : List ℕ) (views : List View) (id : ℕ) (v : View) → IsKept values words views → get_elem? views id ≡ some v → IsKept values words (set views id v)
  same_view words views id v r at = unmoved words views id v v r at refl (r.seat id v at) (λ place h. h)

  -- a seat learns a place that is set
  pub learns : (words : List ℕ) (views : List View) (id : ℕ) (v : View) (place : ℕ) → IsKept values words views → get_elem? views id ≡ some v → 0 < v.parts → word_at words place ≢ 0
      → IsKept values words (set views id (learnt v place))
  learns words views id v place r at some_part filled = unmoved words views id v (learnt v place) r at refl
      (let t = r.seat id v at in (
        t.0,
        (λ none. absurd (omega arith)),
        (λ other h. ⊎_elim (λ (e : other ≡ place). subst (λ (z : ℕ). word_at words z ≢ 0) (sym e) filled) (λ k. t.2 other k) (learn_either v.known place other h)),
      ))
      (λ other h. learn_keeps v.known place other h)

  -- ---- the step that sets a word

  -- a place's word becomes the code of its value, and the seat knows the place
  pub fills_word : (words : List ℕ) (views : List View) (id : ℕ) (v : View) (place c : ℕ) → IsKept values words views → get_elem? views id ≡ some v → 0 < v.parts
      → place < length values → IsCodeOf c (value_among values place) → IsKept values (set words (place + 1) c) (set views id (learnt v place))
  fills_word words views id v place c r at some_part room is =
      let wide = r.wide in let inside : place + 1 < length words = omega arith in
      let some_code = code_some c (value_among values place) is in
      let here = word_same words place c inside in
      let still : (u : View) → IsSound values words u → IsSound values (set words (place + 1) c) u = λ u t. (t.0, t.1, λ other h. stays_set words place c other inside some_code (t.2 other h)) in
      let mine : IsSound values (set words (place + 1) c) (learnt v place) = let t = still v (r.seat id v at) in (
        t.0,
        (λ none. absurd (omega arith)),
        (λ other h. ⊎_elim (λ (e : other ≡ place). subst (λ (z : ℕ). word_at (set words (place + 1) c) z ≢ 0) (sym e) (λ z. some_code (sym here ∙ z))) (λ k. t.2 other k) (learn_either v.known place other h)),
      ) in
      let apart : 0 ≢ place + 1 = λ e. omega arith in record {
        wide = length-set words (place + 1) c ∙ wide;
        spare = get_or-set_other words (place + 1) 0 c 0 apart ∙ r.spare;
        each = λ other. dite (ℕ_discrete other place)
            (λ e. subst (λ (z : ℕ). (word_at (set words (place + 1) c) z ≡ 0) ⊎ IsCodeOf (word_at (set words (place + 1) c) z) (value_among values z)) (sym e)
            (inr (is.0, here ∙ is.1)))
            (λ ne. subst (λ (z : ℕ). (z ≡ 0) ⊎ IsCodeOf z (value_among values other)) (sym (word_other words place other c ne)) (r.each other));
        seat = seats_stay (IsSound values (set words (place + 1) c)) views id (learnt v place) mine (λ k u e. still u (r.seat k u e));
        told = λ other filled. dite (ℕ_discrete other place)
            (λ e. (id, learnt v place, set_at views id (learnt v place) v at, subst (λ z. has (learn v.known place) z ≡ true) (sym e) (learn_has v.known place)))
            (λ ne. told_stays views id v (learnt v place) other at (λ h. learn_keeps v.known place other h) (r.told other (λ z. filled (word_other words place other c ne ∙ z))));
        whole = let a = total_set views id v (learnt v place) at in let b = r.whole in omega arith;
      }

  -- ---- making, splitting and joining seats

  -- the table at the start
  pub opens : (words : List ℕ) → length words ≡ length values + 1 → ((at : ℕ) → get_or words at 0 ≡ 0) → IsKept values words (fresh values ∷ [])
  opens words wide zeros = record {
    wide = wide;
    spare = zeros 0;
    each = λ place. inl (zeros (place + 1));
    seat = only;
    told = λ place filled. absurd (filled (zeros (place + 1)));
    whole = omega arith;
  }
    where
      only : (id : ℕ) (v : View) → get_elem? (fresh values ∷ []) id ≡ some v → IsSound values words v
      only zero v e = subst (IsSound values words) (some-injective (fresh values) v e) ((λ _. refl), (λ _. refl), (λ place h. absurd cc))
      only (suc id) v e = absurd (some-ne-none v (sym e))

  -- a seat with two parts or more is cut in two
  pub cut : (words : List ℕ) (views : List View) (id : ℕ) (v : View) → IsKept values words views → get_elem? views id ≡ some v → 1 < v.parts
      → IsKept values words (set views id (left_half v) ++ right_half v ∷ [])
  cut words views id v r at parts = let sound = r.seat id v at in
      let left : IsSound values words (left_half v) = ((λ _. sound.0 (omega arith)), (λ none. absurd (omega arith)), sound.2) in
      let right : IsSound values words (right_half v) = ((λ _. sound.0 (omega arith)), (λ none. absurd (omega arith)), sound.2) in record {
        wide = r.wide;
        spare = r.spare;
        each = r.each;
        seat = λ k u e. ⊎_elim (λ old. seats_stay (IsSound values words) views id (left_half v) left r.seat k u old) (λ (t : right_half v ≡ u). subst (IsSound values words) t right)
            (at_snoc (set views id (left_half v)) (right_half v) u k e);
        told = λ place filled. let (k, u, there, h) = told_stays views id v (left_half v) place at (λ h. h) (r.told place filled) in
            (k, u, at_longer (set views id (left_half v)) (right_half v ∷ []) k u there, h);
        whole = let a = total_set views id v (left_half v) at in let b = total_snoc (set views id (left_half v)) (right_half v) in let d = r.whole in omega arith;
      }

  -- a seat takes in another
  pub put_together : (words : List ℕ) (views : List View) (id : ℕ) (v : View) (other : ℕ) (w : View) → IsKept values words views → get_elem? views id ≡ some v → 0 < v.parts → other ≢ id
      → get_elem? (set views id (joined v w)) other ≡ some w → IsKept values words (set (set views id (joined v w)) other spent)
  put_together words views id v other w r at some_part apart there =
      let both = joined v w in let vs = set views id both in
      let sound = r.seat id v at in
      let there' : get_elem? views other ≡ some w = sym (set_else views id other both apart) ∙ there in
      let theirs = r.seat other w there' in
      let mine : IsSound values words both = ((λ _. sound.0 some_part), (λ none. absurd (omega arith)), (λ place h. ⊎_elim (λ a. sound.2 place a) (λ b. theirs.2 place b) (merge_either v.known w.known place h))) in
      let gone : IsSound values words spent = ((λ some. absurd (omega arith)), (λ _. refl), (λ place h. absurd cc)) in
      let here : get_elem? (set vs other spent) id ≡ some both = set_else vs other id spent (λ e. apart (sym e)) ∙ set_at views id both v at in record {
        wide = r.wide;
        spare = r.spare;
        each = r.each;
        seat = seats_stay (IsSound values words) vs other spent gone (seats_stay (IsSound values words) views id both mine r.seat);
        told = λ place filled. let (k, u, old, h) = r.told place filled in dite (ℕ_discrete k id)
            (λ e. let same : v ≡ u = some-injective v u (sym at ∙ subst (λ z. get_elem? views z ≡ some u) e old) in
            (id, both, here, merge_left v.known w.known place (subst (λ (z : View). has z.known place ≡ true) (sym same) h)))
            (λ ne. dite (ℕ_discrete k other)
            (λ e. let same : w ≡ u = some-injective w u (sym there' ∙ subst (λ z. get_elem? views z ≡ some u) e old) in
            (id, both, here, merge_right v.known w.known place (subst (λ (z : View). has z.known place ≡ true) (sym same) h)))
            (λ ne'. (k, u, set_else vs other k spent ne' ∙ (set_else views id k both ne ∙ old), h)));
        whole = let a = total_set views id v both at in let b = total_set vs other w spent there in let d = r.whole in omega arith;
      }

  -- ---- the end

  -- what the one seat that has all parts knows is what is set, and each word that is set has its place's code
  pub closes : (words : List ℕ) (views : List View) (id : ℕ) (v : View) (place : ℕ) → IsKept values words views → get_elem? views id ≡ some v → v.parts ≡ all_parts
      → (has v.known place ≡ true → IsCodeOf (word_at words place) (value_among values place)) × (has v.known place ≢ true → word_at words place ≡ 0)
  closes words views id v place r at all = (
    (λ h. let filled = (r.seat id v at).2 place h in ⊎_elim (λ z. absurd (filled z)) (λ z. z) (r.each place)),
    (λ none. dite (ℕ_discrete (word_at words place) 0) (λ z. z) (λ filled. absurd (alone (r.told place filled) none))),
  )
    where
      alone : IsKnown views place → has v.known place ≢ true → ⊥
      alone (k, u, there, h) none = dite (ℕ_discrete k id)
          (λ e. let same : v ≡ u = some-injective v u (sym at ∙ subst (λ z. get_elem? views z ≡ some u) e there) in none (subst (λ (z : View). has z.known place ≡ true) (sym same) h))
          (λ ne. dite (ℕ_discrete u.parts 0)
          (λ z. let nothing = (r.seat k u there).1 z in let h' : has [] place ≡ true = subst (λ z. has z place ≡ true) nothing h in cc h')
          (λ some. let a = total_two views id k v u ne at there in let b = r.whole in omega arith))
