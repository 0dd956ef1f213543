-- The seats that a history starts with, and lists of seats.
use Rattle.std.proofs.Common.{◌≡◌, ℕ, zero, suc, ◌+◌, ◌<◌, List, [], ◌∷◌, ◌++◌, length, length-set, Some, slice_get, slice_index_or, slice_set, sym, refl, ap, ◌∙◌, subst, ◌⊎◌, inl, inr, ⊎_elim, arith}
use Rattle.atomic_table.specs.Table.{Me}
use Rattle.ov_chronicle.specs.declared.rule.View.{View}
use Rattle.ov_chronicle.specs.Rules.{IsFounder, maker}
use Rattle.ov_chronicle.specs.Seats.{Book, Holder, IsSeatOf, IsSameSeat, AreSeats, AreAll}

get_end : {A : Type 0} (l : List A) (a b : A) (j : ℕ) → slice_get (l ++ a ∷ []) j ≡ Some b → (slice_get l j ≡ Some b) ⊎ ((j ≡ length l) × (a ≡ b))
get_end [] a b zero e = inr (refl, cc e)
get_end [] a b (suc j) e = absurd (cc e)
get_end (x ∷ xs) a b zero e = inl e
get_end (x ∷ xs) a b (suc j) e = ⊎_elim (λ old. inl old) (λ t. let z = t.0 in inr (omega arith, t.1)) (get_end xs a b j e)

abbrev pub IsFresh : {E T : Type 0} → ℕ → Book → T → Holder E T → Type 0
IsFresh n book setting seat = IsSeatOf book seat × (seat.actor ≡ n) × (seat.setting ≡ setting) × (seat.seen ≡ []) × (seat.turn ≡ 0)

module _ {E T : Type 0} (book : Book) (setting : T) where
  pub one_later : (from : ℕ) (seats all : List (Holder E T)) (seat : Holder E T) → all ≡ seats ++ seat ∷ [] → AreSeats from book setting seats → IsFresh (from + length seats) book setting seat → AreSeats from book setting all
  one_later from seats all seat is old new k u e = ⊎_elim (λ t. old k u t) (λ (t : (k ≡ length seats) × (seat ≡ u)). subst (λ (z : ℕ × Holder E T). IsFresh (from + z.0) book setting z.1) (λ i. (sym t.0 i, t.1 i)) new)
      (get_end seats seat u k (ap (λ l. slice_get l k) (sym is) ∙ e))

  pub one_before : (seats : List (Holder E T)) (seat : Holder E T) → IsFresh 0 book setting seat → AreSeats 1 book setting seats → AreSeats 0 book setting (seat ∷ seats)
  one_before seats seat new old zero u e = subst (IsFresh 0 book setting) (cc e) new
  one_before seats seat new old (suc k) u e = let t = old k u e in (t.0, (let a = t.1 in omega arith), t.2, t.3, t.4)

pub founder_on : {E T P : Type 0} (n : ℕ) (setting : T) (limit actors : ℕ) (me me' : Me P (View E T)) → me' ≡ (maker me.0, me.1) → IsFounder n setting limit actors me → IsFounder (n + 1) setting limit actors me'
founder_on n setting limit actors me me' is f = subst (IsFounder (n + 1) setting limit actors) (sym is) (f.0, f.1, (let m = f.2 in omega arith), f.3, f.4, f.5, f.6, f.7, (let m = f.8 in omega arith), f.9, f.10)

get_set : {A : Type 0} (l : List A) (i : ℕ) (a : A) (k : ℕ) (u : A) → slice_get (slice_set l i a) k ≡ Some u → ((k ≡ i) × (a ≡ u)) ⊎ (slice_get l k ≡ Some u)
get_set [] i a k u e = absurd (cc e)
get_set (x ∷ xs) zero a zero u e = inl (refl, cc e)
get_set (x ∷ xs) zero a (suc k) u e = inr e
get_set (x ∷ xs) (suc i) a zero u e = inr e
get_set (x ∷ xs) (suc i) a (suc k) u e = ⊎_elim (λ (t : (k ≡ i) × (a ≡ u)). inl (ap suc t.0, t.1)) (λ o. inr o) (get_set xs i a k u e)

get_there : {A : Type 0} (l : List A) (k : ℕ) (x : A) → k < length l → x ≡ slice_index_or l k x → slice_get l k ≡ Some x
get_there [] k x below is = absurd (omega arith)
get_there (y ∷ ys) zero x below is = ap Some (sym is)
get_there (y ∷ ys) (suc k) x below is = get_there ys k x (omega arith) is

-- all seats of a history are still all after a call that changes one of them
pub still_all : {E T : Type 0} (book : Book) (seats : List (Holder E T)) (place : ℕ) (old new : Holder E T) → place < length seats → old ≡ slice_index_or seats place old → IsSameSeat old new → AreAll book seats → AreAll book (slice_set seats place new)
still_all {E} {T} book seats place old new below is same whole =
    let o = whole.1 place old (get_there seats place old below is) in let own = o.0 in
    let fresh : IsSeatOf book new × (new.actor ≡ place) = ((same.0 ∙ own.0, same.1 ∙ own.1, same.2 ∙ own.2), same.3 ∙ o.1) in (
      length-set seats place new ∙ whole.0,
      λ k seat e. ⊎_elim (λ (t : (k ≡ place) × (new ≡ seat)). subst (λ (z : ℕ × Holder E T). IsSeatOf book z.1 × (z.1.actor ≡ z.0)) (λ i. (sym t.0 i, t.1 i)) fresh) (λ there. whole.1 k seat there) (get_set seats place new k seat e),
    )
