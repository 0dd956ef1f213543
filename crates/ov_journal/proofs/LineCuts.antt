-- A line that is cut at its first ` ; `: the words of its head are its first group, and the groups of the rest its others.
use Rattle.std.proofs.Common.{◌≡◌, ℕ, Bool, true, false, eqb, List, [], ◌∷◌, ◌++◌, Option, Some, None, refl, ap, subst, ◌∙◌, append_assoc, codes, inl, inr}
use Rattle.std.specs.List.{slice_split, onto_first}
use Rattle.std.specs.Option.{option_map}
use Rattle.std.proofs.lemmas.Bool.{cases_Bool}
use Rattle.std.proofs.lemmas.Bool.Decides.{eqb_tells}
use Rattle.std.proofs.lemmas.List.Elements.{All-from_recursion}
use Rattle.std.proofs.lemmas.List.Splits.{slice_split-cons_yes, slice_split-cons_no, slice_split_at}
use Rattle.ov_base.specs.Groups.{groups_of, is_separator, words_of}
use Rattle.ov_base.specs.Split.{cut_at, lacks, onto}
use Rattle.ov_base.proofs.Joins.{Lacks, split_some}
use Rattle.ov_base.proofs.Splits.{cut_takes}

-- ---- where a byte is cut

-- what stands before the cut lacks the byte
cut_lacks : (b : ℕ) (bytes xs ys : List ℕ) → cut_at b bytes ≡ Some (xs, ys) → lacks b xs ≡ true
cut_lacks b [] xs ys e = absurd cc
cut_lacks b (x ∷ bytes) xs ys e =
    elim (eqb_tells x b) [
      | inl p ↦ let e' : ◌≡◌ {A = Option (List ℕ × List ℕ)} (Some ([], bytes)) (Some (xs, ys)) = rw p.0 at e in
          let q : ◌≡◌ {A = List ℕ × List ℕ} ([], bytes) (xs, ys) = cc in
          subst (λ (r : List ℕ × List ℕ). lacks b r.0 ≡ true) q refl
      | inr p ↦ by (cut_at b bytes) p.0 (λ us vs h. cut_lacks b bytes us vs h) (rw p.0 at e)
    ]
  where
    by : (o : Option (List ℕ × List ℕ)) → eqb x b ≡ false → ((us vs : List ℕ) → o ≡ Some (us, vs) → lacks b us ≡ true)
        → option_map (onto (x ∷ [])) o ≡ Some (xs, ys) → lacks b xs ≡ true
    by None other f h = absurd cc
    by (Some p) other f h =
        let q : ◌≡◌ {A = List ℕ × List ℕ} (x ∷ p.0, p.1) (xs, ys) = cc in
        subst (λ (r : List ℕ × List ℕ). lacks b r.0 ≡ true) q (rw other (f p.0 p.1 refl))

-- ---- the groups of a line

-- the pieces round an element that passes: those before it, and those behind it
split_front : {X : Type 0} (p : X → Bool) (xs : List X) (y : X) (ys : List X) → p y ≡ true → slice_split p (xs ++ y ∷ ys) ≡ slice_split p xs ++ slice_split p ys
split_front p [] y ys here = slice_split-cons_yes p y ys here
split_front p (x ∷ xs) y ys here =
    elim (cases_Bool (p x)) [
      | inl cut ↦ rw (slice_split-cons_yes p x (xs ++ y ∷ ys) cut, slice_split-cons_yes p x xs cut) (ap (λ (t : _). [] ∷ t) (split_front p xs y ys here))
      | inr kept ↦ let some = split_some p xs in
          rw (slice_split-cons_no p x (xs ++ y ∷ ys) kept, slice_split-cons_no p x xs kept, split_front p xs y ys here, some.2) refl
    ]

-- an element in front of the first of pieces that are not `;`
onto_apart : (x : ℕ) (words : List (List ℕ)) → eqb x 59 ≡ false → Lacks is_separator words → Lacks is_separator (onto_first x words)
onto_apart x [] other h = (rw other refl, tt)
onto_apart x (word ∷ words) other h = (rw other refl, h.1)

-- no word of a text without `;` is that word
words_apart : (text : List ℕ) → lacks 59 text ≡ true → Lacks is_separator (words_of text)
words_apart [] h = (refl, tt)
words_apart (x ∷ xs) h =
    elim (eqb_tells x 59) [
      | inl p ↦ let bad : false ≡ true = rw p.0 at h in absurd cc
      | inr p ↦ let rest : lacks 59 xs ≡ true = rw p.0 at h in
          elim (cases_Bool (eqb x 32)) [
            | inl space ↦ rw (slice_split-cons_yes (λ b. eqb b 32) x xs space) (refl, words_apart xs rest)
            | inr other ↦ rw (slice_split-cons_no (λ b. eqb b 32) x xs other) (onto_apart x (words_of xs) p.0 (words_apart xs rest))
          ]
    ]

-- the front of what lacks a byte lacks it
front_lacks : (b : ℕ) (xs ys : List ℕ) → lacks b (xs ++ ys) ≡ true → lacks b xs ≡ true
front_lacks b [] ys h = refl
front_lacks b (x ∷ xs) ys h =
    elim (eqb_tells x b) [
      | inl p ↦ let bad : false ≡ true = rw p.0 at h in absurd cc
      | inr p ↦ let rest : lacks b (xs ++ ys) ≡ true = rw p.0 at h in rw p.0 (front_lacks b xs ys rest)
    ]

-- the word `;` in front of others
words_behind : (tail : List ℕ) → words_of (59 ∷ 32 ∷ tail) ≡ codes ";" ∷ words_of tail
words_behind tail = slice_split-cons_no (λ b. eqb b 32) 59 (32 ∷ tail) refl ∙ ap (onto_first 59) (slice_split-cons_yes (λ b. eqb b 32) 32 tail refl)

-- the groups of a text that is cut at its first ` ; `
pub groups_cut : (text head tail : List ℕ) → cut_at 59 text ≡ Some (head ++ 32 ∷ [], 32 ∷ tail) → groups_of text ≡ words_of head ∷ groups_of tail
groups_cut text head tail e =
    let whole : text ≡ head ++ 32 ∷ 59 ∷ 32 ∷ tail = cut_takes 59 text (head ++ 32 ∷ []) (32 ∷ tail) e ∙ append_assoc head (32 ∷ []) (59 ∷ 32 ∷ tail) in
    let free = front_lacks 59 head (32 ∷ []) (cut_lacks 59 text (head ++ 32 ∷ []) (32 ∷ tail) e) in
    ap groups_of whole
    ∙ ap (slice_split is_separator) (split_front (λ b. eqb b 32) head 32 (59 ∷ 32 ∷ tail) refl ∙ ap (λ (t : List (List ℕ)). words_of head ++ t) (words_behind tail))
    ∙ slice_split_at is_separator (words_of head) (codes ";") (words_of tail) (All-from_recursion _ (words_of head) (words_apart head free)) refl
