-- The seats that are taken in at the end.
use Rattle.std.proofs.Common.{◌≡◌, ℕ, zero, suc, ◌<◌, ◌≤◌, true, List, [], ◌∷◌, ◌++◌, map, length, Some, slice_get, slice_index_or, sym, refl, ap, ◌∙◌, subst, arith}
use Rattle.std.specs.Prelude.{remove}
use mathlib.Core.Option.{some, some-injective}
use lib.ListN.{get_elem?}
use Rattle.atomic_table.specs.Table.{State, Me, Final, Seen}
use Rattle.ov_chronicle.specs.declared.rule.Past.{Past}
use Rattle.ov_chronicle.specs.declared.rule.View.{View}
use Rattle.ov_chronicle.specs.Rules.{IsIdle, IsKept, IsGathering, past_of}
use Rattle.ov_chronicle.proofs.Keeps.{closes}
use Rattle.ov_chronicle.specs.Seats.{Book, Holder, AreAll, AreOf, AreTold, IsByActors, IsHistoryOfAll, SeeInTurn, IsSeatOf, kept_of}

-- the first of a list and the others are the list
pub first_and_others : {A : Type 0} (l : List A) (x : A) (others : List A) → 0 < length l → x ≡ slice_index_or l 0 x → others ≡ remove l 0 → l ≡ x ∷ others
first_and_others [] x others some_there is rest = absurd (omega arith)
first_and_others (y ∷ ys) x others some_there is rest = λ k. sym is k ∷ sym rest k

module _ {E T : Type 0} where
  get_kept : (seats : List (Holder E T)) (k : ℕ) (s : Holder E T) → slice_get seats k ≡ Some s → slice_get (map kept_of seats) k ≡ Some (kept_of s)
  get_kept [] k s e = absurd (cc e)
  get_kept (x ∷ xs) zero s e = let is : x ≡ s = cc e in ap (λ z. Some (kept_of z)) is
  get_kept (x ∷ xs) (suc k) s e = get_kept xs k s e

  -- what is told of seats as they were taken in is told of the seats
  pub told_all : (actor_of : E → ℕ) (lawful : T → List E → Type 0) (log : List E) (seats : List (Holder E T)) → AreTold actor_of lawful log (map kept_of seats) → IsHistoryOfAll actor_of lawful log seats
  told_all actor_of lawful log seats told k seat e = told.0 k (kept_of seat) (get_kept seats k seat e)

  pub told_in_turn : (actor_of : E → ℕ) (lawful : T → List E → Type 0) (log : List E) (seats : List (Holder E T)) → AreTold actor_of lawful log (map kept_of seats) → SeeInTurn seats
  told_in_turn actor_of lawful log seats told i j a b at there le = told.1 i j (kept_of a) (kept_of b) (get_kept seats i a at) (get_kept seats j b there) le

  -- all seats are the first and the others
  pub all_seats : (book : Book) (all : List (Holder E T)) (first : Holder E T) (others : List (Holder E T)) → 0 < book.actors → first ≡ slice_index_or all 0 first → others ≡ remove all 0 → AreAll book all → all ≡ first ∷ others
  all_seats book all first others some_there is rest whole = let count = whole.0 in first_and_others all first others (omega arith) is rest

  -- what the first seat keeps at the end is of all seats
  pub kept_of_all : {P : Type 0} (first : Holder E T) (others all : List (Holder E T)) (me : Me P (View E T)) → all ≡ first ∷ others → IsGathering 1 (kept_of first) (map kept_of others) me → past_of me.0 ∷ me.0.joined ≡ map kept_of all
  kept_of_all first others all me is gathered = (λ k. gathered.3 k ∷ gathered.4 k) ∙ ap (map kept_of) (sym is)

  -- the others are seats of the history too
  pub others_of : (book : Book) (first : Holder E T) (others all : List (Holder E T)) → all ≡ first ∷ others → AreAll book all → AreOf book others
  others_of book first others all is whole k seat e = (whole.1 (suc k) seat (ap (λ l. slice_get l (suc k)) is ∙ e)).0

  pub first_of : (book : Book) (first : Holder E T) (others all : List (Holder E T)) → all ≡ first ∷ others → AreAll book all → IsSeatOf book first × (first.actor ≡ 0)
  first_of book first others all is whole = whole.1 0 first (ap (λ l. slice_get l 0) is)

  -- all but the last are seats of the history, and so is the last
  pub before_last : (book : Book) (front : List (Holder E T)) (last : Holder E T) → AreOf book (front ++ last ∷ []) → AreOf book front × IsSeatOf book last
  before_last book [] last are = ((λ k seat e. absurd (cc e)), are 0 last refl)
  before_last book (x ∷ xs) last are =
      let rest = before_last book xs last (λ k seat e. are (suc k) seat e) in ((λ k seat e. go k seat e rest.0), rest.1)
    where
      go : (k : ℕ) (seat : Holder E T) → slice_get (x ∷ xs) k ≡ Some seat → AreOf book xs → IsSeatOf book seat
      go zero seat e old = are 0 seat e
      go (suc k) seat e old = old k seat e

  -- the last is taken in before those that were
  pub kept_snoc : (front : List (Holder E T)) (last : Holder E T) (kept : List (Past E T)) → map kept_of front ++ (kept_of last ∷ kept) ≡ map kept_of (front ++ last ∷ []) ++ kept
  kept_snoc [] last kept = refl
  kept_snoc (x ∷ xs) last kept = ap (λ l. kept_of x ∷ l) (kept_snoc xs last kept)

module _ {E T P : Type 0} (items : P → List E) (room : P → ℕ) (actor_of : E → ℕ) (lawful : T → List E → Type 0) where
  -- the first value of a table that is closed, where the first seat has taken all others in
  pub opened : (id : ℕ) (v : View E T) (carried : List (ℕ × P)) (words : List ℕ) (slots : List P) (list : P) → IsIdle {E = E} {T = T} {P = P} (v, carried) → v.first ≡ true → v.alive ≡ 1
      → Final (Seen (λ (s : State P (View E T)). IsKept items room actor_of lawful s.words s.homes s.views) id v) words slots → get_elem? slots 0 ≡ some list
      → (length (items list) ≤ v.limit) × IsByActors actor_of v.made (items list) × AreTold actor_of lawful (items list) (past_of v ∷ v.joined)
  opened id v carried words slots list idle first alone last is =
      let s = last.0 in let held = last.1 in
      let all = closes items room actor_of lawful s.words s.homes s.views id v held.0 held.1 first idle.1 idle.3 alone in
      let same : all.0 ≡ list = some-injective all.0 list (sym (last.4 0 all.0 all.1) ∙ is) in
      subst (λ p. (length (items p) ≤ v.limit) × IsByActors actor_of v.made (items p) × AreTold actor_of lawful (items p) (past_of v ∷ v.joined)) same (all.2, all.3, all.4)
