-- Words in groups: in a text, words stand between spaces, and groups of words between the words `;`.
use Rattle.std.specs.Prelude.{ℕ, ◌==◌, Bool, List, map, codes}
use Rattle.std.specs.Borrow.{Bor}
use Rattle.std.specs.List.{slice_split}
use Rattle.std.specs.Str.{bytes_eq}
use Rattle.ov_base.specs.Split.{joined}

-- the words of a text, between its spaces
abbrev pub words_of : List ℕ → List (List ℕ)
words_of text = slice_split (λ b. b == 32) text

-- whether the word is `;`
abbrev pub is_separator : List ℕ → Bool
is_separator word = bytes_eq word (codes ";")

-- the groups of a text: its words, cut at each `;`
abbrev pub groups_of : List ℕ → List (List (List ℕ))
groups_of text = slice_split is_separator (words_of text)

-- the text of groups of words: a space between words, and the word `;` between groups
abbrev pub groups_text : List (List (List ℕ)) → List ℕ
groups_text groups = joined 32 (joined (codes ";") groups)

-- ---- words and groups that code refers to

-- the words that are referred to
abbrev pub words_in : List (Bor (List ℕ)) → List (List ℕ)
words_in words = map (λ word. word.now) words

-- the groups that are referred to
abbrev pub groups_in : List (Bor (List (Bor (List ℕ)))) → List (List (List ℕ))
groups_in groups = map (λ group. words_in group.now) groups
