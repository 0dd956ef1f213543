-- Parts that are read are those of their text.
use Rattle.std.proofs.Common.{◌≡◌, ℕ, ℤ, pos, List, [], ◌∷◌, map, Some, refl, sym, ap, subst, ◌∙◌, codes}
use Rattle.std.specs.Prelude.{int_le}
use Rattle.std.specs.List.{AllByRecursion}
use Rattle.std.specs.Str.{bytes_eq}
use Rattle.std.proofs.lemmas.Option.{cond_some}
use Rattle.ov_base.specs.Groups.{words_of, is_separator, groups_of, groups_text}
use Rattle.ov_base.specs.Key.{IsKey, key_of}
use Rattle.ov_base.specs.Amount.{IsAmount, amount_text, amount_of}
use Rattle.ov_base.proofs.Readers.{bind_some, word_is, chosen, either}
use Rattle.ov_base.proofs.Keys.{key_takes}
use Rattle.ov_base.proofs.Amounts.{amount_takes}
use Rattle.ov_base.proofs.GroupTexts.{groups_takes}
use Rattle.ov_base.proofs.Joins.{joined_groups, split_some}
use Rattle.ov_base.proofs.Traverse.{all_of_takes}
use Rattle.ov_functor.specs.declared.part.Part.{Part}
use Rattle.ov_functor.specs.declared.part.Part.TheVariants.{Put, Del, Add, Least, Greatest, Move, Get}
use Rattle.ov_functor.specs.Words.{part_words, parts_text, IsPart, IsParts, key_part, amount_part, key_part_of, amount_part_of, move_of, move_part_of, part_of, parts_of}

-- ---- the words of a part

-- the part is in form, and these are its words
abbrev IsSpelled : List (List ℕ) → Part → Type 0
IsSpelled words part = IsPart part × (words ≡ part_words part)

key_part_spelled : (word key : List ℕ) (part : Part) → IsKey key → key_part word key ≡ Some part → IsSpelled (word ∷ key ∷ []) part
key_part_spelled word key part k e =
    either (bytes_eq word (codes "get")) (Some (Get key)) _ part e
    (λ same h. let q : ◌≡◌ {A = Part} (Get key) part = cc in subst (IsSpelled (word ∷ key ∷ [])) q (k, rw (word_is word (codes "get") same) refl))
    λ other. let c = cond_some (bytes_eq word (codes "del")) (Del key) part other in
    subst (IsSpelled (word ∷ key ∷ [])) c.1 (k, rw (word_is word (codes "del") c.0) refl)

amount_part_spelled : (word key : List ℕ) (amount : ℤ) (part : Part) → IsKey key → IsAmount amount → amount_part word key amount ≡ Some part
    → IsSpelled (word ∷ key ∷ amount_text amount ∷ []) part
amount_part_spelled word key amount part k a e =
    let goal = IsSpelled (word ∷ key ∷ amount_text amount ∷ []) in
    either (bytes_eq word (codes "put")) (Some (Put key amount)) _ part e
    (λ same h. let q : ◌≡◌ {A = Part} (Put key amount) part = cc in subst goal q ((k, a), rw (word_is word (codes "put") same) refl))
    λ e2. either (bytes_eq word (codes "add")) (Some (Add key amount)) _ part e2
    (λ same h. let q : ◌≡◌ {A = Part} (Add key amount) part = cc in subst goal q ((k, a), rw (word_is word (codes "add") same) refl))
    λ e3. either (bytes_eq word (codes "least")) (Some (Least key amount)) _ part e3
    (λ same h. let q : ◌≡◌ {A = Part} (Least key amount) part = cc in subst goal q ((k, a), rw (word_is word (codes "least") same) refl))
    λ e4. let c = cond_some (bytes_eq word (codes "greatest")) (Greatest key amount) part e4 in
    subst goal c.1 ((k, a), rw (word_is word (codes "greatest") c.0) refl)

key_part_takes : (word key : List ℕ) (part : Part) → key_part_of word key ≡ Some part → IsSpelled (word ∷ key ∷ []) part
key_part_takes word key part e =
    bind_some (key_of key) _ part e λ k read last.
    let t = key_takes key k read in
    rw t.1 (key_part_spelled word k part t.0 last)

amount_part_takes : (word key amount : List ℕ) (part : Part) → amount_part_of word key amount ≡ Some part → IsSpelled (word ∷ key ∷ amount ∷ []) part
amount_part_takes word key amount part e =
    bind_some (key_of key) _ part e λ k read rest.
    bind_some (amount_of amount) _ part rest λ a read2 last.
    let t = key_takes key k read in
    let u = amount_takes amount a read2 in
    rw (t.1, u.1) (amount_part_spelled word k a part t.0 u.0 last)

move_takes : (from to amount : List ℕ) (part : Part) → move_of from to amount ≡ Some part → IsSpelled (codes "move" ∷ from ∷ to ∷ amount ∷ []) part
move_takes from to amount part e =
    bind_some (key_of from) _ part e λ f read rest.
    bind_some (key_of to) _ part rest λ t read2 rest2.
    bind_some (amount_of amount) _ part rest2 λ a read3 last.
    let giver = key_takes from f read in
    let getter = key_takes to t read2 in
    let some = amount_takes amount a read3 in
    let c = cond_some (int_le (pos 1) a) (Move f t a) part last in
    subst (IsSpelled (codes "move" ∷ from ∷ to ∷ amount ∷ [])) c.1 ((giver.0, getter.0, some.0, c.0), rw (giver.1, getter.1, some.1) refl)

move_part_takes : (word from to amount : List ℕ) (part : Part) → move_part_of word from to amount ≡ Some part → IsSpelled (word ∷ from ∷ to ∷ amount ∷ []) part
move_part_takes word from to amount part e =
    let c = chosen (bytes_eq word (codes "move")) (move_of from to amount) part e in
    rw (word_is word (codes "move") c.0) (move_takes from to amount part c.1)

-- a part that is read is in form, and its words are those that were read
pub part_takes : (words : List (List ℕ)) (part : Part) → part_of words ≡ Some part → IsPart part × (words ≡ part_words part)
unfolding part_of
part_takes [] part e = absurd cc
part_takes (word ∷ []) part e = absurd cc
part_takes (word ∷ key ∷ []) part e = key_part_takes word key part e
part_takes (word ∷ key ∷ amount ∷ []) part e = amount_part_takes word key amount part e
part_takes (word ∷ from ∷ to ∷ amount ∷ []) part e = move_part_takes word from to amount part e
part_takes (word ∷ from ∷ to ∷ amount ∷ more ∷ words) part e = absurd cc

-- ---- the text of parts

-- a part has words
pub words_some : (part : Part) → (word : List ℕ) × (words : List (List ℕ)) × (part_words part ≡ word ∷ words)
words_some (Put key amount) = (codes "put", key ∷ amount_text amount ∷ [], refl)
words_some (Del key) = (codes "del", key ∷ [], refl)
words_some (Add key amount) = (codes "add", key ∷ amount_text amount ∷ [], refl)
words_some (Least key amount) = (codes "least", key ∷ amount_text amount ∷ [], refl)
words_some (Greatest key amount) = (codes "greatest", key ∷ amount_text amount ∷ [], refl)
words_some (Move from to amount) = (codes "move", from ∷ to ∷ amount_text amount ∷ [], refl)
words_some (Get key) = (codes "get", key ∷ [], refl)

-- the words of parts, with `;` between the parts, and a space between all the words
pub parts_joined : (parts : List Part) → groups_text (map part_words parts) ≡ parts_text parts
parts_joined [] = refl
parts_joined (part ∷ others) = joined_groups 32 (codes ";") part_words words_some part others

parts_some : (pieces : List (List (List ℕ))) (piece : List (List ℕ)) (others : List (List (List ℕ))) (parts : List Part)
    → pieces ≡ piece ∷ others → pieces ≡ map part_words parts → AllByRecursion IsPart parts → IsParts parts
parts_some pieces piece others [] e f h = absurd cc
parts_some pieces piece others (part ∷ more) e f h = h

-- parts that are read are in form, and their bytes are their text
pub parts_takes : (bytes : List ℕ) (parts : List Part) → parts_of bytes ≡ Some parts → IsParts parts × (bytes ≡ parts_text parts)
unfolding parts_of
parts_takes bytes parts e =
    let all = all_of_takes part_of IsPart part_words part_takes (groups_of bytes) parts e in
    let some = split_some is_separator (words_of bytes) in
    (parts_some (groups_of bytes) some.0 some.1 parts some.2 all.1 all.0, sym (groups_takes bytes) ∙ ap groups_text all.1 ∙ parts_joined parts)
