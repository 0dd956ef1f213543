-- Beginnings of lists, and the entries of one actor.
use Rattle.std.proofs.Common.{◌≡◌, ◌≢◌, ℕ, eqb, Bool, true, false, cond, List, [], ◌∷◌, ◌++◌, sym, refl, ap, ◌∙◌, append_assoc, ne_eqb, eq-eqb}
use Rattle.std.proofs.lemmas.List.{append-nil}
use mathlib.Core.List.{IsPrefix}
use Rattle.ov_chronicle.specs.Lists.{entries_by}

pub prefix_self : {A : Type 0} (xs : List A) → IsPrefix xs xs
prefix_self xs = ([], append-nil xs)

pub prefix_more : {A : Type 0} (xs ys zs : List A) → IsPrefix xs ys → IsPrefix xs (ys ++ zs)
prefix_more xs ys zs p = (p.0 ++ zs, sym (append_assoc xs p.0 zs) ∙ ap (λ w. w ++ zs) p.1)

module _ {E : Type 0} (actor_of : E → ℕ) where
  pub by_append : (a : ℕ) (xs ys : List E) → entries_by actor_of a (xs ++ ys) ≡ entries_by actor_of a xs ++ entries_by actor_of a ys
  by_append a [] ys = refl
  by_append a (x ∷ xs) ys = go (eqb (actor_of x) a) (by_append a xs ys)
    where
      go : (b : Bool) → entries_by actor_of a (xs ++ ys) ≡ entries_by actor_of a xs ++ entries_by actor_of a ys
          → cond b (x ∷ entries_by actor_of a (xs ++ ys)) (entries_by actor_of a (xs ++ ys)) ≡ cond b (x ∷ entries_by actor_of a xs) (entries_by actor_of a xs) ++ entries_by actor_of a ys
      go true h = ap (λ l. x ∷ l) h
      go false h = h

  pub by_one : (a : ℕ) (e : E) → actor_of e ≡ a → entries_by actor_of a (e ∷ []) ≡ e ∷ []
  by_one a e is = ap (λ b. cond b (e ∷ []) []) (eq-eqb (actor_of e) a is)

  pub by_other : (a : ℕ) (e : E) → actor_of e ≢ a → entries_by actor_of a (e ∷ []) ≡ []
  by_other a e not = ap (λ b. cond b (e ∷ []) []) (ne_eqb (actor_of e) a not)

  same_append : {A : Type 0} (xs ys : List A) → xs ++ ys ≡ xs → ys ≡ []
  same_append [] ys e = e
  same_append (x ∷ xs) ys e = same_append xs ys (cc e)

  -- where a list has no more entries of an actor than its beginning, the rest has none
  pub by_rest : (a : ℕ) (seen rest : List E) → entries_by actor_of a (seen ++ rest) ≡ entries_by actor_of a seen → entries_by actor_of a rest ≡ []
  by_rest a seen rest e = same_append (entries_by actor_of a seen) (entries_by actor_of a rest) (sym (by_append a seen rest) ∙ e)

pub prefix_trans : {A : Type 0} (xs ys zs : List A) → IsPrefix xs ys → IsPrefix ys zs → IsPrefix xs zs
prefix_trans xs ys zs p q = (p.0 ++ q.0, sym (append_assoc xs p.0 q.0) ∙ (ap (λ w. w ++ q.0) p.1 ∙ q.1))
