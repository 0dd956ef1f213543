-- What is kept of the rounds of settlers, with one entry of a settler more.
use Rattle.std.proofs.Common.{◌≡◌, ◌≢◌, ◌==◌, ℕ, zero, suc, ◌+◌, false, Some, List, [], ◌∷◌, length, refl, sym, ap, subst, ◌∙◌, eq-eqb, inl, inr}
use Rattle.std.specs.Prelude.{slice_get, if◌then◌else◌}
use Rattle.std.specs.Option.{option_map}
use Rattle.std.proofs.Math.ListN.{set, length-set}
use Rattle.std.proofs.lemmas.Bool.Decides.{eqb_tells}
use Rattle.ov_topology.specs.declared.actor.Actor.TheVariants.{Settler}
use Rattle.ov_event.specs.Letters.{is_settler}
use Rattle.ov_event.specs.declared.entry.Entry.{Entry}
use Rattle.ov_event.specs.declared.kind.Kind.{Kind}
use Rattle.ov_event.specs.declared.kind.Kind.TheVariants as kinds
use Rattle.ov_history.specs.Past.{History}
use Rattle.ov_history.specs.Settlers.{open_round, asks, opened}
use Rattle.ov_follow.specs.Passes.{last_asked}
use Rattle.ov_step.specs.declared.rounds.SettlerRounds.{SettlerRounds}
use Rattle.ov_step.specs.Reading.{rounds_next}
use Rattle.ov_step.specs.Rounds.{AreRounds, kept_round}

-- ---- lists by numbers

-- each member of a list is as its number wants it
abbrev pub Each : {A : Type 0} → (ℕ → A → Type 0) → List A → Type 0
Each {A = A} P xs = (k : ℕ) (x : A) → slice_get xs k ≡ Some x → P k x

-- the member that was written
get_set_same : {A : Type 0} (xs : List A) (i : ℕ) (x y : A) → slice_get xs i ≡ Some x → slice_get (set xs i y) i ≡ Some y
get_set_same [] i x y there = absurd (cc)
get_set_same (one ∷ xs) zero x y there = refl
get_set_same (one ∷ xs) (suc i) x y there = get_set_same xs i x y there

-- the other members
get_set_other : {A : Type 0} (xs : List A) (i k : ℕ) (y : A) → i ≢ k → slice_get (set xs i y) k ≡ slice_get xs k
get_set_other [] i k y other = refl
get_set_other (one ∷ xs) zero zero y other = absurd (other refl)
get_set_other (one ∷ xs) zero (suc k) y other = refl
get_set_other (one ∷ xs) (suc i) zero y other = refl
get_set_other (one ∷ xs) (suc i) (suc k) y other = get_set_other xs i k y (λ same. other (ap suc same))

-- one member is written, and the others stay as they are wanted
each_set : {A : Type 0} (P Q : ℕ → A → Type 0) (xs : List A) (i : ℕ) (x y : A) → slice_get xs i ≡ Some x → Each P xs → Q i y
    → ((k : ℕ) (other : A) → (i == k) ≡ false → P k other → Q k other) → Each Q (set xs i y)
each_set P Q xs i x y there each here others k z read =
    elim (eqb_tells i k) [
      | inl same ↦
          let written : slice_get (set xs i y) k ≡ Some y = subst (λ (n : ℕ). slice_get (set xs i y) n ≡ Some y) same.1 (get_set_same xs i x y there) in
          let member : y ≡ z = cc in
          subst (λ (n : ℕ). Q n z) same.1 (subst (λ v. Q i v) member here)
      | inr apart ↦ others k z apart.0 (each k z (sym (get_set_other xs i k y apart.1) ∙ read))
    ]

-- ---- rounds

-- this is kept of a settler's rounds
abbrev RoundsOf : History → ℕ → SettlerRounds → Type 0
RoundsOf h s rounds = (rounds.asked ≡ last_asked s h) × (rounds.open ≡ option_map kept_round (open_round s h))

-- an entry of another actor changes no rounds
rounds_other : (h : History) (e : Entry) (s : ℕ) (rounds : SettlerRounds) → is_settler s e.actor ≡ false → RoundsOf h s rounds → RoundsOf (e ∷ h) s rounds
rounds_other h e s rounds other are = (rw other are.0, rw other are.1)

-- an entry of the settler changes its rounds
rounds_own : (h : History) (s number : ℕ) (kind : Kind) (rounds : SettlerRounds) → number ≡ length h + 1 → RoundsOf h s rounds
    → RoundsOf (record { actor = Settler s; kind = kind } ∷ h) s (rounds_next number kind rounds)
rounds_own h s number kind rounds is are = rw (eq-eqb s s refl) (by kind)
  where
    by : (k : Kind) → ((rounds_next number k rounds).asked ≡ (if asks k then length h + 1 else last_asked s h)) × ((rounds_next number k rounds).open ≡ option_map kept_round (opened k (open_round s h)))
    by (kinds.Asked round mode from below) = (is, refl)
    by (kinds.Settled values) = (are.0, refl)
    by k = are

-- an entry of a settler changes its rounds
pub rounds_noted : (h : History) (count s number : ℕ) (kind : Kind) (settlers : List SettlerRounds) (rounds : SettlerRounds) → number ≡ length h + 1 → slice_get settlers s ≡ Some rounds
    → AreRounds h count settlers → AreRounds (record { actor = Settler s; kind = kind } ∷ h) count (set settlers s (rounds_next number kind rounds))
rounds_noted h count s number kind settlers rounds is there are = record {
  all = length-set settlers s (rounds_next number kind rounds) ∙ are.all;
  each = each_set (RoundsOf h) (RoundsOf (record { actor = Settler s; kind = kind } ∷ h)) settlers s rounds (rounds_next number kind rounds) there are.each
      (rounds_own h s number kind rounds is (are.each s rounds there)) (λ k one other. rounds_other h (record { actor = Settler s; kind = kind }) k one other);
}
