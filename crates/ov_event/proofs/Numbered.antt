-- The letter of a number: one of the writes, or the last letter, or none.
use Rattle.std.proofs.Common.{◌≡◌, ℕ, zero, suc, ◌-◌, ◌<◌, ◌≤◌, ◌≢◌, List, [], ◌∷◌, ◌++◌, length, Some, None, refl, ap, ◌∙◌, arith}
use Rattle.std.specs.Prelude.{slice_get, Option}
use Rattle.std.proofs.lemmas.Bool.{ne_eqb}
use Rattle.std.proofs.lemmas.Option.{slice_get_past}
use Rattle.std.proofs.lemmas.List.{length-append}
use Rattle.ov_topology.specs.Shape.{Shape}
use Rattle.ov_event.specs.Letters.{listed, writes_of, last_of, letters_of, letter_in}
use Rattle.ov_event.specs.declared.entry.Entry.{Entry}
use Rattle.ov_event.specs.declared.letter.Letter.{Letter}

get_before : (xs ys : List Letter) (i : ℕ) → i < length xs → slice_get (xs ++ ys) i ≡ slice_get xs i
get_before [] ys i there = absurd (omega arith)
get_before (x ∷ xs) ys zero there = refl
get_before (x ∷ xs) ys (suc i) there = get_before xs ys i (omega arith)

get_listed : (xs : List Letter) (last : Option Letter) → slice_get (xs ++ listed last) (length xs) ≡ last
get_listed [] None = refl
get_listed [] (Some sent) = refl
get_listed (x ∷ xs) last = get_listed xs last

listed_short : (last : Option Letter) → length (listed last) ≤ 1
listed_short None = omega arith
listed_short (Some sent) = omega arith

letter_some : (t : Shape) (e : Entry) (number : ℕ) → number ≢ 0 → letter_in t e number ≡ slice_get (letters_of t e) (number - 1)
letter_some t e number some = rw (ne_eqb number 0 some) refl

-- the letters of the numbers up to the count of the writes
pub number_of_write : (t : Shape) (e : Entry) (number : ℕ) → number ≢ 0 → number - 1 < length (writes_of t e.actor e.kind)
    → letter_in t e number ≡ slice_get (writes_of t e.actor e.kind) (number - 1)
number_of_write t e number some there =
    letter_some t e number some ∙ get_before (writes_of t e.actor e.kind) (listed (last_of e.actor e.kind)) (number - 1) there

-- the letter behind the writes
pub number_of_last : (t : Shape) (e : Entry) (number : ℕ) → number ≢ 0 → number - 1 ≡ length (writes_of t e.actor e.kind)
    → letter_in t e number ≡ last_of e.actor e.kind
number_of_last t e number some at =
    letter_some t e number some ∙ (ap (slice_get (letters_of t e)) at ∙ get_listed (writes_of t e.actor e.kind) (last_of e.actor e.kind))

-- no letter stands behind the last one
pub number_past : (t : Shape) (e : Entry) (number : ℕ) → number ≢ 0 → length (writes_of t e.actor e.kind) < number - 1
    → letter_in t e number ≡ None
number_past t e number some past =
    letter_some t e number some ∙ slice_get_past (letters_of t e) (number - 1)
    (omega (arith, past, length-append (writes_of t e.actor e.kind) (listed (last_of e.actor e.kind)), listed_short (last_of e.actor e.kind)))
