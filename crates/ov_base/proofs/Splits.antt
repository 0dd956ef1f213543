-- What cutting gives is what was joined.
use Rattle.std.proofs.Common.{◌≡◌, ℕ, zero, suc, ◌+◌, ◌-◌, ◌<◌, ◌^◌, Bool, true, false, List, [], ◌∷◌, ◌++◌, length, get_or, take, drop, Option, Some, None, refl, sym, ap, subst, ◌∙◌, arith, inl, inr}
use Rattle.std.specs.Option.{option_map}
use Rattle.std.specs.List.{list_all}
use Rattle.std.specs.Fmt.{decimal}
use Rattle.std.specs.Str.Parse.{AllDigits}
use Rattle.std.proofs.lemmas.Bool.{and_parts}
use Rattle.std.proofs.lemmas.Bool.Decides.{eqb_tells}
use Rattle.std.proofs.lemmas.List.{take-append-drop, drop_more, drop_all, length-append}
use Rattle.std.proofs.lemmas.Fmt.{digits_decimal}
use Rattle.std.proofs.lemmas.Str.Parse.{digit_from_value, numerals_by_value, tells_digits}
use Rattle.ov_base.specs.Split.{cut_at, lacks, onto, pair_of}
use Rattle.ov_base.proofs.Readers.{bind_some}

pub cut_again : (b : ℕ) (xs ys : List ℕ) → lacks b xs ≡ true → cut_at b (xs ++ b ∷ ys) ≡ Some (xs, ys)
cut_again b [] ys h = elim (eqb_tells b b) [ inl p ↦ rw p.0 refl | inr p ↦ absurd (p.1 refl) ]
cut_again b (x ∷ xs) ys h =
    elim (eqb_tells x b) [
      | inl p ↦ let bad : false ≡ true = rw p.0 at h in absurd cc
      | inr p ↦ let rest : lacks b xs ≡ true = rw p.0 at h in rw (p.0, cut_again b xs ys rest) refl
    ]

-- the parts of a cut
taken_more : (x : ℕ) (o : Option (List ℕ × List ℕ)) (P : List ℕ → List ℕ → Type 0) (xs ys : List ℕ)
    → ((us vs : List ℕ) → o ≡ Some (us, vs) → P (x ∷ us) vs) → option_map (onto (x ∷ [])) o ≡ Some (xs, ys) → P xs ys
taken_more x None P xs ys f e = absurd cc
taken_more x (Some p) P xs ys f e =
    let q : ◌≡◌ {A = List ℕ × List ℕ} (x ∷ p.0, p.1) (xs, ys) = cc in
    subst (λ (r : List ℕ × List ℕ). P r.0 r.1) q (f p.0 p.1 refl)

pub cut_takes : (b : ℕ) (bytes xs ys : List ℕ) → cut_at b bytes ≡ Some (xs, ys) → bytes ≡ xs ++ b ∷ ys
cut_takes b [] xs ys e = absurd cc
cut_takes b (x ∷ bytes) xs ys e =
    elim (eqb_tells x b) [
      | inl p ↦ let e' : ◌≡◌ {A = Option (List ℕ × List ℕ)} (Some ([], bytes)) (Some (xs, ys)) = rw p.0 at e in
          let q : ◌≡◌ {A = List ℕ × List ℕ} ([], bytes) (xs, ys) = cc in
          subst (λ (r : List ℕ × List ℕ). x ∷ bytes ≡ r.0 ++ b ∷ r.1) q (ap (λ (y : ℕ). y ∷ bytes) p.1)
      | inr p ↦ taken_more x (cut_at b bytes) (λ us vs. x ∷ bytes ≡ us ++ b ∷ vs) xs ys
          (λ us vs e. ap (λ (t : List ℕ). x ∷ t) (cut_takes b bytes us vs e)) (rw p.0 at e)
    ]

-- the first place of a byte is where its bytes are cut
pub cut_first : (b : ℕ) (bytes : List ℕ) (k : ℕ) → k < length bytes → ((j : ℕ) → j < k → get_or bytes j 0 ≡ b → ⊥) → get_or bytes k 0 ≡ b
    → cut_at b bytes ≡ Some (take k bytes, drop (suc k) bytes)
cut_first b [] k within none is = absurd (omega arith)
cut_first b (x ∷ bytes) zero within none is = elim (eqb_tells x b) [ inl p ↦ rw p.0 refl | inr p ↦ absurd (p.1 is) ]
cut_first b (x ∷ bytes) (suc k) within none is =
    elim (eqb_tells x b) [
      | inl p ↦ absurd (none 0 (omega arith) p.1)
      | inr p ↦ rw (p.0, cut_first b bytes k (omega arith) (λ j l. none (suc j) (omega arith)) is) refl
    ]

pub cut_none : (b : ℕ) (bytes : List ℕ) → ((j : ℕ) → j < length bytes → get_or bytes j 0 ≡ b → ⊥) → cut_at b bytes ≡ None
cut_none b [] none = refl
cut_none b (x ∷ bytes) none =
    elim (eqb_tells x b) [
      | inl p ↦ absurd (none 0 (omega arith) p.1)
      | inr p ↦ rw (p.0, cut_none b bytes (λ j l. none (suc j) (omega arith))) refl
    ]

-- behind a cut there is less
pub cut_shorter : (b : ℕ) (bytes xs ys : List ℕ) → cut_at b bytes ≡ Some (xs, ys) → length ys < length bytes
cut_shorter b bytes xs ys e = omega (arith, ap length (cut_takes b bytes xs ys e), length-append xs (b ∷ ys))

digits_lack : (b : ℕ) (ds : List ℕ) → b < 48 → AllDigits 10 ds → lacks b ds ≡ true
digits_lack b [] low h = refl
digits_lack b (d ∷ ds) low h =
    elim (eqb_tells d b) [
      | inl p ↦ absurd (omega (arith, digit_from_value d h.0))
      | inr p ↦ rw p.0 (digits_lack b ds low h.1)
    ]

pub decimal_lacks : (b n : ℕ) → b < 48 → n < 2 ^ 64 → lacks b (decimal n) ≡ true
decimal_lacks b n low small = digits_lack b (decimal n) low (digits_decimal (numerals_by_value (AllDigits 10) tells_digits) n small)

-- where each byte passes a test, a byte that does not is lacked
pub passing_lack : (p : ℕ → Bool) (b : ℕ) (xs : List ℕ) → p b ≡ false → list_all p xs ≡ true → lacks b xs ≡ true
passing_lack p b [] other h = refl
passing_lack p b (x ∷ xs) other h =
    let each = and_parts (p x) (list_all p xs) h in
    elim (eqb_tells x b) [
      | inl e ↦ let pass : p b ≡ true = ap p (sym e.1) ∙ each.0 in absurd cc
      | inr e ↦ rw e.0 (passing_lack p b xs other each.1)
    ]

-- two lists that lack a byte, one behind the other, lack it
pub lacks_appended : (b : ℕ) (xs ys : List ℕ) → lacks b xs ≡ true → lacks b ys ≡ true → lacks b (xs ++ ys) ≡ true
lacks_appended b [] ys h k = k
lacks_appended b (x ∷ xs) ys h k =
    elim (eqb_tells x b) [
      | inl e ↦ let bad : false ≡ true = rw e.0 at h in absurd cc
      | inr e ↦ let rest : lacks b xs ≡ true = rw e.0 at h in rw e.0 (lacks_appended b xs ys rest k)
    ]

-- a list is all but its last, and the last
pub last_apart : (xs : List ℕ) (d : ℕ) → 0 < length xs → xs ≡ take (length xs - 1) xs ++ get_or xs (length xs - 1) d ∷ []
last_apart xs d some =
    sym (take-append-drop (length xs - 1) xs)
    ∙ ap (λ (t : List ℕ). take (length xs - 1) xs ++ t)
    (drop_more xs (length xs - 1) d (omega arith)
    ∙ ap (λ (t : List ℕ). get_or xs (length xs - 1) d ∷ t) (drop_all (length xs - 1 + 1) xs (omega arith)))

-- ---- two words with a byte between them

-- What two words that were read are: each fits, and the bytes are their texts with the byte between them.
pub record Pair {A B C : Type 0} (b : ℕ) (make : A → B → C) (FitsOne : A → Type 0) (FitsOther : B → Type 0) (text_one : A → List ℕ) (text_other : B → List ℕ) (bytes : List ℕ) (v : C) : Type 0 where
  pub one : A
  pub other : B
  pub made : make one other ≡ v
  pub fits_one : FitsOne one
  pub fits_other : FitsOther other
  pub spelled : bytes ≡ text_one one ++ b ∷ text_other other

-- two words that are read are spelled so
pub pair_takes : {A B C : Type 0} (b : ℕ) (first : List ℕ → Option A) (second : List ℕ → Option B) (make : A → B → C)
    (FitsOne : A → Type 0) (FitsOther : B → Type 0) (text_one : A → List ℕ) (text_other : B → List ℕ)
    → ((word : List ℕ) (x : A) → first word ≡ Some x → FitsOne x × (word ≡ text_one x))
    → ((word : List ℕ) (y : B) → second word ≡ Some y → FitsOther y × (word ≡ text_other y))
    → (bytes : List ℕ) (v : C) → pair_of b first second make bytes ≡ Some v → Pair b make FitsOne FitsOther text_one text_other bytes v
pair_takes {A} {B} {C} b first second make FitsOne FitsOther text_one text_other takes_one takes_other bytes v e =
    bind_some (cut_at b bytes) _ v e λ words cut more.
    bind_some (first words.0) _ v more λ x read more2.
    bind_some (second words.1) _ v more2 λ y there last.
    let p = takes_one words.0 x read in
    let q = takes_other words.1 y there in
    record {
      one = x;
      other = y;
      made = cc;
      fits_one = p.0;
      fits_other = q.0;
      spelled = cut_takes b bytes words.0 words.1 cut ∙ rw (p.1, q.1) refl;
    }

-- two words, of which the first lacks the byte, are read as what they spell
pub pair_again : {A B C : Type 0} (b : ℕ) (first : List ℕ → Option A) (second : List ℕ → Option B) (make : A → B → C) (one other : List ℕ) (x : A) (y : B)
    → lacks b one ≡ true → first one ≡ Some x → second other ≡ Some y → pair_of b first second make (one ++ b ∷ other) ≡ Some (make x y)
pair_again b first second make one other x y free read there = rw (cut_again b one other free, read, there) refl
