-- The text of parts is read as those parts.
use Rattle.std.proofs.Common.{◌≡◌, ℕ, ℤ, true, List, [], ◌∷◌, map, Some, refl, sym, ap, ◌∙◌, arith, codes}
use Rattle.std.specs.List.{list_all, AllByRecursion}
use Rattle.ov_base.specs.Word.{Reads}
use Rattle.ov_base.specs.Groups.{groups_of}
use Rattle.ov_base.specs.Split.{lacks, all_of}
use Rattle.ov_base.specs.Key.{IsKey}
use Rattle.ov_base.specs.Amount.{IsAmount, amount_text}
use Rattle.ov_base.proofs.Readers.{reads_by_laws}
use Rattle.ov_base.proofs.Keys.{key_again}
use Rattle.ov_base.proofs.Amounts.{amount_again}
use Rattle.ov_base.proofs.GroupTexts.{IsGrouped, groups_again, groups_lack}
use Rattle.ov_base.proofs.GroupedWords.{key_grouped, amount_grouped}
use Rattle.ov_base.proofs.Traverse.{all_of_again, all_of_texts}
use Rattle.ov_functor.specs.declared.part.Part.{Part}
use Rattle.ov_functor.specs.declared.part.Part.TheVariants.{Put, Del, Add, Least, Greatest, Move, Get}
use Rattle.ov_functor.specs.Transaction.{is_positive}
use Rattle.ov_functor.specs.Words.{part_words, parts_text, IsPart, IsParts, part_of, parts_of}
use Rattle.ov_functor.proofs.PartWords.{words_some, parts_joined, parts_takes}

-- ---- a part

-- the words of a part in form are read as that part
pub part_again : (part : Part) → IsPart part → part_of (part_words part) ≡ Some part
unfolding part_of
part_again (Put key amount) h = rw (key_again key h.0, amount_again amount h.1) refl
part_again (Del key) h = rw (key_again key h) refl
part_again (Add key amount) h = rw (key_again key h.0, amount_again amount h.1) refl
part_again (Least key amount) h = rw (key_again key h.0, amount_again amount h.1) refl
part_again (Greatest key amount) h = rw (key_again key h.0, amount_again amount h.1) refl
part_again (Move from to amount) h = rw (key_again from h.0, key_again to h.1, amount_again amount h.2, h.3) refl
part_again (Get key) h = rw (key_again key h) refl

-- ---- the words of parts

-- the first word of each part could be a key
put : IsKey (codes "put")
put = record { some = omega arith; short = omega arith; letters = refl }

del : IsKey (codes "del")
del = record { some = omega arith; short = omega arith; letters = refl }

add : IsKey (codes "add")
add = record { some = omega arith; short = omega arith; letters = refl }

least : IsKey (codes "least")
least = record { some = omega arith; short = omega arith; letters = refl }

greatest : IsKey (codes "greatest")
greatest = record { some = omega arith; short = omega arith; letters = refl }

move : IsKey (codes "move")
move = record { some = omega arith; short = omega arith; letters = refl }

get : IsKey (codes "get")
get = record { some = omega arith; short = omega arith; letters = refl }

-- what holds of keys and of amounts holds of each word of a part
part_each : (Holds : List ℕ → Type 0) → ((key : List ℕ) → IsKey key → Holds key) → ((amount : ℤ) → IsAmount amount → Holds (amount_text amount))
    → (part : Part) → IsPart part → AllByRecursion Holds (part_words part)
part_each Holds k a (Put key amount) h = (k (codes "put") put, (k key h.0, (a amount h.1, tt)))
part_each Holds k a (Del key) h = (k (codes "del") del, (k key h, tt))
part_each Holds k a (Add key amount) h = (k (codes "add") add, (k key h.0, (a amount h.1, tt)))
part_each Holds k a (Least key amount) h = (k (codes "least") least, (k key h.0, (a amount h.1, tt)))
part_each Holds k a (Greatest key amount) h = (k (codes "greatest") greatest, (k key h.0, (a amount h.1, tt)))
part_each Holds k a (Move from to amount) h = (k (codes "move") move, (k from h.0, (k to h.1, (a amount h.2, tt))))
part_each Holds k a (Get key) h = (k (codes "get") get, (k key h, tt))

-- each word of a part can stand in a group of a line
pub part_grouped : (part : Part) → IsPart part → AllByRecursion IsGrouped (part_words part)
part_grouped part h = part_each IsGrouped key_grouped amount_grouped part h

-- so can those of parts
pub parts_grouped : (parts : List Part) → AllByRecursion IsPart parts → AllByRecursion (AllByRecursion IsGrouped) (map part_words parts)
parts_grouped parts h = all_of_texts (AllByRecursion IsGrouped) IsPart part_words part_grouped parts h

-- ---- parts

-- the text of parts in form is read as those parts
pub parts_again : (parts : List Part) → IsParts parts → parts_of (parts_text parts) ≡ Some parts
unfolding parts_of
parts_again [] h = absurd h
parts_again (part ∷ others) h =
    ap (λ (t : List ℕ). all_of part_of (groups_of t)) (sym (parts_joined (part ∷ others)))
    ∙ ap (all_of part_of) (groups_again (part_words part) (map part_words others) (words_some part) (parts_grouped (part ∷ others) h))
    ∙ all_of_again part_of IsPart part_words part_again (part ∷ others) h

-- what is read are the parts that the bytes spell, and nothing where they spell none
pub parts_reads : (bytes : List ℕ) → Reads parts_text IsParts bytes (parts_of bytes)
parts_reads bytes = reads_by_laws parts_of parts_text IsParts parts_again parts_takes bytes

-- ---- for the crates above

-- the text of parts has no line feed
pub parts_lack : (parts : List Part) → IsParts parts → lacks 10 (parts_text parts) ≡ true
parts_lack [] h = absurd h
parts_lack (part ∷ others) h = ap (lacks 10) (sym (parts_joined (part ∷ others))) ∙ groups_lack (map part_words (part ∷ others)) (parts_grouped (part ∷ others) h)

part_positive : (part : Part) → IsPart part → is_positive part ≡ true
part_positive (Put key amount) h = refl
part_positive (Del key) h = refl
part_positive (Add key amount) h = refl
part_positive (Least key amount) h = refl
part_positive (Greatest key amount) h = refl
part_positive (Move from to amount) h = h.3
part_positive (Get key) h = refl

each_positive : (parts : List Part) → AllByRecursion IsPart parts → list_all is_positive parts ≡ true
each_positive [] h = refl
each_positive (part ∷ others) h = rw (part_positive part h.0) (each_positive others h.1)

-- the moves of parts in form are of at least 1
pub parts_positive : (parts : List Part) → IsParts parts → list_all is_positive parts ≡ true
parts_positive [] h = absurd h
parts_positive (part ∷ others) h = each_positive (part ∷ others) h
