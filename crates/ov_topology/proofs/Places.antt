-- A place that is read is written so, and what is written is read again.
use Rattle.std.proofs.Common.{◌≡◌, ℕ, ◌+◌, ◌<◌, ◌≤◌, leb, ltb, ◌&&◌, true, ◌-◌, List, [], ◌∷◌, Some, refl, ap, subst, ◌∙◌, arith, inl, inr}
use Rattle.std.specs.Fmt.{decimal}
use Rattle.std.proofs.lemmas.Bool.{lt-ltb, ltb-true, le-leb, leb-true, and_parts}
use Rattle.std.proofs.lemmas.Bool.Decides.{eqb_tells}
use Rattle.std.proofs.lemmas.Option.{cond_some}
use Rattle.std.proofs.lemmas.Fmt.{decimal_digit}
use Rattle.ov_base.specs.Number.{number_of}
use Rattle.ov_base.specs.Split.{cut_at, lacks}
use Rattle.ov_base.proofs.GroupTexts.{IsGrouped}
use Rattle.ov_base.proofs.GroupedWords.{number_grouped}
use Rattle.ov_base.proofs.Readers.{bind_some}
use Rattle.ov_base.proofs.Numbers.{number_again, number_takes}
use Rattle.ov_base.proofs.Splits.{cut_again, cut_takes, decimal_lacks, lacks_appended}
use Rattle.ov_topology.specs.declared.place.Place.{Place}
use Rattle.ov_topology.specs.Place.{IsPlace, place_text, place_at, place_of, letter_of}

letter_again : (letter : ℕ) → 1 ≤ letter → letter ≤ 9 → letter_of (decimal letter) ≡ Some letter
unfolding letter_of
letter_again letter some few =
    rw (decimal_digit letter (omega arith), le-leb 49 (48 + letter) (omega arith), le-leb (48 + letter) 57 (omega arith)) (ap (λ (k : ℕ). Some k) (omega arith))

letter_takes : (bytes : List ℕ) (letter : ℕ) → letter_of bytes ≡ Some letter → (1 ≤ letter) × (letter ≤ 9) × (bytes ≡ decimal letter)
unfolding letter_of
letter_takes [] letter e = absurd cc
letter_takes (digit ∷ []) letter e =
    let q = cond_some (leb 49 digit && leb digit 57) (digit - 48) letter e in
    let tests = and_parts (leb 49 digit) (leb digit 57) q.0 in
    let low = leb-true 49 digit tests.0 in
    let high = leb-true digit 57 tests.1 in
    let is : digit ≡ 48 + letter = omega (arith, q.1) in
    (omega (arith, q.1), omega (arith, q.1), rw (is, decimal_digit letter (omega (arith, q.1))) refl)
letter_takes (digit ∷ more ∷ bytes) letter e = absurd cc

-- the two words of a place in form are read as that place
pub place_at_again : (place : Place) → IsPlace place → place_at (decimal place.entry) (decimal place.letter) ≡ Some place
place_at_again place h = rw (number_again place.entry h.held, letter_again place.letter h.letter h.digit, lt-ltb 0 place.entry (omega (arith, h.entry))) refl

-- a place that is read of two words is in form, and these are its words
pub place_at_takes : (number digit : List ℕ) (place : Place) → place_at number digit ≡ Some place → IsPlace place × (number ≡ decimal place.entry) × (digit ≡ decimal place.letter)
place_at_takes number digit place e =
    bind_some (number_of number) _ place e λ entry read rest.
    bind_some (letter_of digit) _ place rest λ letter read2 last.
    let made : Place = record { entry = entry; letter = letter } in
    let q = cond_some (ltb 0 entry) made place last in
    let n = number_takes number entry read in
    let d = letter_takes digit letter read2 in
    let fits : IsPlace made = record { entry = ltb-true 0 entry q.0; held = n.0; letter = d.0; digit = d.1 } in
    subst (λ (x : Place). IsPlace x × (number ≡ decimal x.entry) × (digit ≡ decimal x.letter)) q.1 (fits, n.1, d.2)

pub place_again : (place : Place) → IsPlace place → place_of (place_text place) ≡ Some place
unfolding place_of
place_again place h =
    rw (cut_again 32 (decimal place.entry) (decimal place.letter) (decimal_lacks 32 place.entry (omega arith) h.held)) (place_at_again place h)

pub place_takes : (bytes : List ℕ) (place : Place) → place_of bytes ≡ Some place → IsPlace place × (bytes ≡ place_text place)
unfolding place_of
place_takes bytes place e =
    bind_some (cut_at 32 bytes) _ place e λ p cut rest.
    let t = place_at_takes p.0 p.1 place rest in
    (t.0, cut_takes 32 bytes p.0 p.1 cut ∙ rw (t.1, t.2) refl)

-- the two words of a place can stand in a group of a line
pub place_grouped : (place : Place) → IsPlace place → IsGrouped (decimal place.entry) × IsGrouped (decimal place.letter)
place_grouped place h = (number_grouped place.entry h.held, number_grouped place.letter (omega (arith, h.digit)))

-- a place lacks each byte below the space, as a line feed
pub place_lacks : (b : ℕ) (place : Place) → b < 32 → IsPlace place → lacks b (place_text place) ≡ true
place_lacks b place low h =
    let behind : lacks b (32 ∷ decimal place.letter) ≡ true =
    elim (eqb_tells 32 b) [ inl e ↦ absurd (omega (arith, e.1)) | inr e ↦ rw e.0 (decimal_lacks b place.letter (omega arith) (omega (arith, h.digit))) ] in
    lacks_appended b (decimal place.entry) (32 ∷ decimal place.letter) (decimal_lacks b place.entry (omega arith) h.held) behind
