-- What a seat knows after a step, and after several.
use Rattle.std.proofs.Common.{◌≡◌, ℕ, ◌+◌, ◌*◌, ◌≤◌, true, false, Option, Some, None, IfSome, IfNone, sym, refl, ap, ◌∙◌, subst, inl, inr, ⊎_elim, arith}
use Rattle.std.proofs.lemmas.Bool.{cases_Bool}
use mathlib.Core.Logic.{dite}
use native.Mathlib.Decide.{ℕ_discrete}
use Rattle.atomic_table.specs.Seated.{TableId}
use Rattle.atomic_table.specs.Table.{Me}
use Rattle.ov_base.specs.Amount.{most}
use Rattle.ov_base.specs.Value.{IsValue}
use Rattle.ov_base.specs.declared.value.Value.{Value}
use Rattle.ov_cells.specs.Codes.{code}
use Rattle.ov_cells.specs.Rules.{has, view, learnt, value_among, IsCodeOf, HasLooked}
use Rattle.ov_cells.specs.Seats.{SeenSeat, HasLearnt}
use Rattle.ov_cells.specs.declared.rule.View.{View}
use Rattle.ov_cells.proofs.Codes.{code_most}
use Rattle.ov_cells.proofs.Known.{learn_has, learn_keeps, learn_either, learn_known}

-- ---- several steps

pub no_step : (bound : ℕ) (seat : SeenSeat) → HasLearnt bound seat seat
no_step bound seat = record { table = refl; values = refl; parts = refl; more = λ place h. h; below = λ place le h. h }

pub steps : (bound : ℕ) (first next last : SeenSeat) → HasLearnt bound first next → HasLearnt bound next last → HasLearnt bound first last
steps bound first next last a b = record {
  table = b.table ∙ a.table;
  values = b.values ∙ a.values;
  parts = b.parts ∙ a.parts;
  more = λ place h. b.more place (a.more place h);
  below = λ place le h. a.below place le (b.below place le h);
}

pub within : (bound more : ℕ) (before after : SeenSeat) → bound ≤ more → HasLearnt bound before after → HasLearnt more before after
within bound more before after le h = record { table = h.table; values = h.values; parts = h.parts; more = h.more; below = λ place over k. h.below place (omega arith) k }

-- a place from the bound on that was not known is not known
pub still_unknown : (bound : ℕ) (before after : SeenSeat) (place : ℕ) → HasLearnt bound before after → bound ≤ place → has before.known place ≡ false → has after.known place ≡ false
still_unknown bound before after place h over isnt = elim (cases_Bool (has after.known place)) [
  | inl now ↦ let was = h.below place over now in absurd cc
  | inr still ↦ still
]

-- ---- one step

-- what contracts see of a seat with this view
abbrev pub seen : TableId → View → ℕ → SeenSeat
seen table v parts = record { table = table; values = v.values; known = v.known; parts = parts }

-- a seat learns a place
pub learns_one : (table later : TableId) (v w : View) (parts place : ℕ) → later ≡ table → w ≡ learnt v place → HasLearnt (place + 1) (seen table v parts) (seen later w parts)
learns_one table later v w parts place same is = subst (λ (u : View). HasLearnt (place + 1) (seen table v parts) (seen later u parts)) (sym is) (record {
  table = same;
  values = refl;
  parts = refl;
  more = λ other h. learn_keeps v.known place other h;
  below = λ other over h. ⊎_elim (λ (e : other ≡ place). absurd (omega arith)) (λ k. k) (learn_either v.known place other h);
})

-- ---- a load

module _ {S : Type 0} (me : Me S View) (place found : ℕ) (me' : Me S View) (tells : HasLooked me place found me') where
  -- the seat stays itself
  pub looked_same : (me'.1 ≡ me.1) × (me'.0.parts ≡ me.0.parts)
  looked_same = (tells.0, dite (ℕ_discrete found 0) (λ empty. ap (λ (v : View). v.parts) (tells.1 empty).0) (λ filled. ap (λ (v : View). v.parts) (tells.2 filled).0))

  -- it has learnt the place, or nothing
  pub looked_learnt : (table later : TableId) (parts : ℕ) → later ≡ table → HasLearnt (place + 1) (seen table me.0 parts) (seen later me'.0 parts)
  looked_learnt table later parts same = dite (ℕ_discrete found 0)
      (λ empty. subst (λ (t : TableId × View). HasLearnt (place + 1) (seen table me.0 parts) (seen t.0 t.1 parts)) (λ i. (sym same i, sym (tells.1 empty).0 i)) (no_step (place + 1) (seen table me.0 parts)))
      (λ filled. learns_one table later me.0 me'.0 parts place same (tells.2 filled).0)

  -- the word is no greater than all codes
  pub looked_most : found ≤ 2 * most + 2
  looked_most = dite (ℕ_discrete found 0) (λ empty. omega arith) (λ filled. code_most found (value_among me.0.values place) (tells.2 filled).1)

  -- at a place that the seat knows nothing changes, and the word is the place's code
  pub looked_known : has me.0.known place ≡ true → (me' ≡ me) × IsCodeOf found (value_among me.0.values place)
  looked_known known = dite (ℕ_discrete found 0)
      (λ empty. let h = (tells.1 empty).1 in absurd cc)
      (λ filled. let t = tells.2 filled in ((λ k. ((t.0 ∙ ap (λ l. view me.0.values l me.0.parts) (learn_known me.0.known place known)) k, tells.0 k)), t.1))

  -- the value of the word is the place's, and the seat knows the place
  pub looked_some : (result : Option Value) → (found ≡ 0 → result ≡ None) → ((value : Value) → IsValue value → found ≡ code value → result ≡ Some value)
      → IfSome result (λ value. (value ≡ value_among me.0.values place) × (has me'.0.known place ≡ true))
  looked_some result empty some = dite (ℕ_discrete found 0)
      (λ z. subst (λ (o : Option Value). IfSome o (λ value. (value ≡ value_among me.0.values place) × (has me'.0.known place ≡ true))) (sym (empty z)) tt)
      (λ filled. let t = tells.2 filled in let is = t.1 in
      subst (λ (o : Option Value). IfSome o (λ value. (value ≡ value_among me.0.values place) × (has me'.0.known place ≡ true))) (sym (some (value_among me.0.values place) is.0 is.1))
      (refl, subst (λ (v : View). has v.known place ≡ true) (sym t.0) (learn_has me.0.known place)))

  -- no value: nothing changes, and the seat did not know the place
  pub looked_none : (P : Type 0) (result : Option Value) → ((value : Value) → IsValue value → found ≡ code value → result ≡ Some value) → (me' ≡ me → has me.0.known place ≡ false → P) → IfNone result P
  looked_none P result some then = dite (ℕ_discrete found 0)
      (λ z. let t = tells.1 z in all result (then (λ k. (t.0 k, tells.0 k)) t.1))
      (λ filled. let t = tells.2 filled in let is = t.1 in subst (λ (o : Option Value). IfNone o P) (sym (some (value_among me.0.values place) is.0 is.1)) tt)
    where
      all : (o : Option Value) → P → IfNone o P
      all None p = p
      all (Some value) p = tt
