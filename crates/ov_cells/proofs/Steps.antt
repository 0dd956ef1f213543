-- What each step of a seat asks of the rule.
use Rattle.std.proofs.Common.{◌≡◌, ℕ, ◌+◌, ◌<◌, ◌≢◌, eqb, false, List, set, sym, refl, subst, inl, inr, ⊎_elim, length, arith}
use Rattle.std.proofs.lemmas.Bool.{cases_Bool}
use mathlib.Core.Option.{none}
use mathlib.Core.Logic.{dite}
use native.Mathlib.Decide.{ℕ_discrete}
use prog.Atomic.{either}
use Rattle.atomic_table.specs.Table.{State, Me, step, keeps, Allows, Splits, Joins}
use Rattle.atomic_table.proofs.Lists.{exchanged}
use Rattle.ov_base.specs.declared.value.Value.{Value}
use Rattle.ov_cells.specs.declared.rule.View.{View}
use Rattle.ov_cells.specs.Rules.{has, learnt, left_half, right_half, joined, spent, word_at, value_among, IsCodeOf, IsKept, HasLooked, Looks, Fills, Counts}
use Rattle.ov_cells.proofs.Kept.{parts_within, same_words, same_view, learns, fills_word, cut, put_together}

module _ {S : Type 0} (values : List Value) where
  abbrev IsRule : State S View → Type 0
  IsRule s = IsKept values s.words s.views

  pub splits : (id : ℕ) (v : View) → 1 < v.parts → Splits IsRule id v (left_half v) (right_half v)
  splits id v parts s r at = cut values s.words s.views id v r at parts

  pub joins : (id : ℕ) (v : View) (other : ℕ) (w : View) → 0 < v.parts → Joins IsRule id v other w (joined v w) spent
  joins id v other w some_part s r at apart there = put_together values s.words s.views id v other w r at some_part apart there

  pub looks : (slots id : ℕ) (me : Me S View) (place : ℕ) → 0 < me.0.parts → Allows IsRule slots id me (place + 1) (λ n. n) (Looks (step slots (place + 1) 0 0 none) me)
  looks slots id me place some_part s r _ at _ = dite (ℕ_discrete (word_at s.words place) 0)
      (λ empty. (me.0, keeps, tt, same_words values s.words (place + 1) _ (same_view values s.words s.views id me.0 r at), tells me.0 (refl, (λ _. (refl, unknown empty)), (λ filled. absurd (filled empty)))))
      (λ filled. (
        learnt me.0 place,
        keeps,
        tt,
        same_words values s.words (place + 1) _ (learns values s.words s.views id me.0 place r at some_part filled),
        tells (learnt me.0 place) (refl, (λ empty. absurd (filled empty)), (λ _. (refl, coded filled))),
      ))
    where
      tells : (w : View) → HasLooked me place (word_at s.words place) (w, me.1) → Looks (step slots (place + 1) 0 0 none) me (word_at s.words place) (w, me.1)
      tells w h other e = let same : place ≡ other = omega arith in subst (λ (p : ℕ). HasLooked me p (word_at s.words place) (w, me.1)) same h

      unknown : word_at s.words place ≡ 0 → has me.0.known place ≡ false
      unknown empty = elim (cases_Bool (has me.0.known place)) [
        | inl there ↦ absurd ((r.seat id me.0 at).2 place there empty)
        | inr isnt ↦ isnt
      ]

      coded : word_at s.words place ≢ 0 → IsCodeOf (word_at s.words place) (value_among me.0.values place)
      coded filled = ⊎_elim (λ z. absurd (filled z)) (λ z. subst (λ (vs : List Value). IsCodeOf (word_at s.words place) (value_among vs place)) (sym ((r.seat id me.0 at).0 some_part)) z) (r.each place)

  pub counts : (slots id : ℕ) (me : Me S View) (i : ℕ) → Allows IsRule slots id me i (λ n. n) (Counts (step slots i 0 0 none) me)
  counts slots id me i s r _ at _ =
      (me.0, keeps, tt, same_words values s.words i _ (same_view values s.words s.views id me.0 r at), (refl, (let a = parts_within s.views id me.0 at in let b = r.whole in omega arith)))

  pub fills : (slots id : ℕ) (me : Me S View) (place c : ℕ) → 0 < me.0.parts → place < length values → IsCodeOf c (value_among values place)
      → Allows IsRule slots id me (place + 1) (λ n. either (eqb n 0) c n) (Fills (step slots (place + 1) 0 c none) me)
  fills slots id me place c some_part room is s r _ at _ = (
    learnt me.0 place,
    keeps,
    tt,
    exchanged (word_at s.words place) 0 c (λ n. IsKept values (set s.words (place + 1) n) (set s.views id (learnt me.0 place)))
        (λ _. fills_word values s.words s.views id me.0 place c r at some_part room is)
        (λ filled. same_words values s.words (place + 1) _ (learns values s.words s.views id me.0 place r at some_part filled)),
    (λ other e. let same : place ≡ other = omega arith in λ k. (learnt me.0 (same k), me.1)),
  )
