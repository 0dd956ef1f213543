-- Words in groups: the groups of a text and the text of groups undo each other.
use Rattle.std.proofs.Common.{◌≡◌, ℕ, true, false, eqb, List, [], ◌∷◌, ◌++◌, map, Bor, refl, sym, ap, ◌∙◌, codes}
use Rattle.std.specs.List.{slice_split, flat_map, AllByRecursion}
use Rattle.std.proofs.lemmas.Bool.{eqb-true}
use Rattle.ov_base.specs.Groups.{words_of, is_separator, groups_of, groups_text, words_in, groups_in}
use Rattle.ov_base.specs.Split.{joined, lacks}
use Rattle.ov_base.proofs.Joins.{HasFirst, Lacks, joined_split, joined_onto_groups, split_again, each_joined, lacks_each, lacks_joined}
use Rattle.ov_base.proofs.Lists.{all_weaker}
use Rattle.ov_base.proofs.Readers.{word_is}
use Rattle.ov_base.proofs.Traverse.{split_map}

-- ---- the words and groups that code keeps

each_group : (groups : List (Bor (List (Bor (List ℕ))))) → groups_in groups ≡ map words_in (map (λ g. g.now) groups)
each_group [] = refl
each_group (group ∷ groups) = ap (λ (t : _). words_in group.now ∷ t) (each_group groups)

-- the groups that code cuts out of the words that it keeps are those of the words
pub groups_kept : (words : List (Bor (List ℕ))) (groups : List (Bor (List (Bor (List ℕ)))))
    → map (λ g. g.now) groups ≡ slice_split (λ w. is_separator w.now) words → groups_in groups ≡ slice_split is_separator (words_in words)
groups_kept words groups e = each_group groups ∙ ap (map words_in) e ∙ sym (split_map is_separator (λ (w : Bor (List ℕ)). w.now) words)

-- the groups that code cuts out of the words of a text are those of the text
pub groups_read : (text : List ℕ) (words : List (Bor (List ℕ))) (groups : List (Bor (List (Bor (List ℕ)))))
    → words_in words ≡ words_of text → groups_in groups ≡ slice_split is_separator (words_in words) → groups_in groups ≡ groups_of text
groups_read text words groups cut grouped = grouped ∙ ap (slice_split is_separator) cut

-- ---- the groups of a text and the text of groups

-- the text of the words of a text
pub words_joined : (text : List ℕ) → joined 32 (words_of text) ≡ text
words_joined text = joined_split (λ b. eqb b 32) 32 (λ x h. eqb-true x 32 h) text

-- the text of the groups of a text
pub groups_takes : (text : List ℕ) → groups_text (groups_of text) ≡ text
groups_takes text = ap (joined 32) (joined_split is_separator (codes ";") (λ x h. word_is x (codes ";") h) (words_of text)) ∙ words_joined text

-- The word can stand in a group of a line: it has no space and no line feed, and is not `;`.
pub record IsGrouped (word : List ℕ) : Type 0 where
  pub space : lacks 32 word ≡ true
  pub line : lacks 10 word ≡ true
  pub apart : is_separator word ≡ false

-- the words of the text of words, of which there is one, and which have no space
pub words_again : (words : List (List ℕ)) → HasFirst words → AllByRecursion (λ word. lacks 32 word ≡ true) words → words_of (joined 32 words) ≡ words
words_again words some free =
    split_again (λ b. eqb b 32) 32 refl words some (all_weaker (λ word. lacks 32 word ≡ true) (Lacks (λ b. eqb b 32)) (λ word h. lacks_each 32 word h) words free)

first_joined : (group : List (List ℕ)) (groups : List (List (List ℕ))) → HasFirst group → HasFirst (joined (codes ";") (group ∷ groups))
first_joined group [] some = some
first_joined group (next ∷ groups) some = (some.0, some.1 ++ codes ";" ∷ joined (codes ";") (next ∷ groups), ap (λ (t : _). t ++ codes ";" ∷ joined (codes ";") (next ∷ groups)) some.2)

-- what holds of words that can stand in groups
of_each : (Holds : List ℕ → Type 0) → ((word : List ℕ) → IsGrouped word → Holds word) → (groups : List (List (List ℕ))) → AllByRecursion (AllByRecursion IsGrouped) groups → AllByRecursion (AllByRecursion Holds) groups
of_each Holds holds groups each = all_weaker (AllByRecursion IsGrouped) (AllByRecursion Holds) (all_weaker IsGrouped Holds holds) groups each

-- the groups of the text of groups, where the first has a word, and each word can stand in a group
pub groups_again : (group : List (List ℕ)) (groups : List (List (List ℕ))) → HasFirst group → AllByRecursion (AllByRecursion IsGrouped) (group ∷ groups)
    → groups_of (groups_text (group ∷ groups)) ≡ group ∷ groups
groups_again group groups some each =
    let free : AllByRecursion (AllByRecursion (λ word. lacks 32 word ≡ true)) (group ∷ groups) = of_each (λ word. lacks 32 word ≡ true) (λ word h. h.space) (group ∷ groups) each in
    let apart : AllByRecursion (Lacks is_separator) (group ∷ groups) = of_each (λ word. is_separator word ≡ false) (λ word h. h.apart) (group ∷ groups) each in
    ap (slice_split is_separator) (words_again (joined (codes ";") (group ∷ groups)) (first_joined group groups some)
    (each_joined (λ word. lacks 32 word ≡ true) (codes ";") refl (group ∷ groups) free))
    ∙ split_again is_separator (codes ";") refl (group ∷ groups) (group, groups, refl) apart

-- the text of a group and of further ones: each of these stands behind ` ; `
pub groups_behind : {A : Type 0} (words : A → List (List ℕ)) → ((item : A) → HasFirst (words item)) → (group : List (List ℕ)) → HasFirst group → (items : List A)
    → groups_text (group ∷ map words items) ≡ joined 32 group ++ flat_map (λ item. codes " ; " ++ joined 32 (words item)) items
groups_behind words some group first items = joined_onto_groups 32 (codes ";") words some group first items

-- the text of groups has no line feed, where each word can stand in a group
pub groups_lack : (groups : List (List (List ℕ))) → AllByRecursion (AllByRecursion IsGrouped) groups → lacks 10 (groups_text groups) ≡ true
groups_lack groups each =
    lacks_joined 10 32 refl (joined (codes ";") groups) (each_joined (λ word. lacks 10 word ≡ true) (codes ";") refl groups (of_each (λ word. lacks 10 word ≡ true) (λ word h. h.line) groups each))
