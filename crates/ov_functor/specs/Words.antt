-- Parts as words: their text, which parts have one, and how a text is read.
use Rattle.std.specs.Prelude.{◌≡◌, ℕ, ℤ, pos, int_le, true, List, [], ◌∷◌, ◌++◌, codes, Option, Some, None, if◌then◌else◌}
use Rattle.std.specs.List.{flat_map, AllByRecursion}
use Rattle.std.specs.Str.{bytes_eq}
use Rattle.ov_base.specs.Word.{◌>>=◌}
use Rattle.ov_base.specs.Groups.{groups_of}
use Rattle.ov_base.specs.Split.{joined, all_of}
use Rattle.ov_base.specs.Key.{IsKey, key_of}
use Rattle.ov_base.specs.Amount.{IsAmount, amount_text, amount_of}
use Rattle.ov_functor.specs.declared.part.Part.{Part}
use Rattle.ov_functor.specs.declared.part.Part.TheVariants.{Put, Del, Add, Least, Greatest, Move, Get}

-- ---- the text of parts

-- the words of a part
abbrev pub part_words : Part → List (List ℕ)
part_words (Put key amount) = codes "put" ∷ key ∷ amount_text amount ∷ []
part_words (Del key) = codes "del" ∷ key ∷ []
part_words (Add key amount) = codes "add" ∷ key ∷ amount_text amount ∷ []
part_words (Least key amount) = codes "least" ∷ key ∷ amount_text amount ∷ []
part_words (Greatest key amount) = codes "greatest" ∷ key ∷ amount_text amount ∷ []
part_words (Move from to amount) = codes "move" ∷ from ∷ to ∷ amount_text amount ∷ []
part_words (Get key) = codes "get" ∷ key ∷ []

-- the words of a part, with a space between them
abbrev pub part_text : Part → List ℕ
part_text part = joined 32 (part_words part)

-- a further part behind ` ; `
abbrev pub further_text : Part → List ℕ
further_text part = codes " ; " ++ part_text part

-- the parts, with ` ; ` between them
abbrev pub parts_text : List Part → List ℕ
parts_text [] = []
parts_text (part ∷ others) = part_text part ++ flat_map further_text others

-- ---- the parts that have a text

-- the part is in form
abbrev pub IsPart : Part → Type 0
IsPart (Put key amount) = IsKey key × IsAmount amount
IsPart (Del key) = IsKey key
IsPart (Add key amount) = IsKey key × IsAmount amount
IsPart (Least key amount) = IsKey key × IsAmount amount
IsPart (Greatest key amount) = IsKey key × IsAmount amount
IsPart (Move from to amount) = IsKey from × IsKey to × IsAmount amount × (int_le (pos 1) amount ≡ true)
IsPart (Get key) = IsKey key

-- there are parts, each in form
abbrev pub IsParts : List Part → Type 0
IsParts [] = ⊥
IsParts (part ∷ others) = AllByRecursion IsPart (part ∷ others)

-- ---- reading a text

-- the part of this word on a key
abbrev pub key_part : List ℕ → List ℕ → Option Part
key_part word key = if bytes_eq word (codes "get") then Some (Get key) else (if bytes_eq word (codes "del") then Some (Del key) else None)

-- the part of this word on a key, with an amount
abbrev pub amount_part : List ℕ → List ℕ → ℤ → Option Part
amount_part word key amount =
    if bytes_eq word (codes "put") then Some (Put key amount)
    else (if bytes_eq word (codes "add") then Some (Add key amount)
    else (if bytes_eq word (codes "least") then Some (Least key amount)
    else (if bytes_eq word (codes "greatest") then Some (Greatest key amount) else None)))

-- the move of an amount, which is at least 1
abbrev pub move_part : List ℕ → List ℕ → ℤ → Option Part
move_part from to amount = if int_le (pos 1) amount then Some (Move from to amount) else None

-- reading `get KEY` or `del KEY`
abbrev pub key_part_of : List ℕ → List ℕ → Option Part
key_part_of word key = key_of key >>= λ k. key_part word k

-- reading a word, a key and an amount
abbrev pub amount_part_of : List ℕ → List ℕ → List ℕ → Option Part
amount_part_of word key amount = do
  k ← key_of key
  a ← amount_of amount
  amount_part word k a

-- reading the two keys and the amount of a move
abbrev pub move_of : List ℕ → List ℕ → List ℕ → Option Part
move_of from to amount = do
  giver ← key_of from
  getter ← key_of to
  a ← amount_of amount
  move_part giver getter a

-- reading `move KEY KEY AMOUNT`
abbrev pub move_part_of : List ℕ → List ℕ → List ℕ → List ℕ → Option Part
move_part_of word from to amount = if bytes_eq word (codes "move") then move_of from to amount else None

-- reading the words of a part
unfoldable pub part_of : List (List ℕ) → Option Part
part_of [] = None
part_of (word ∷ []) = None
part_of (word ∷ key ∷ []) = key_part_of word key
part_of (word ∷ key ∷ amount ∷ []) = amount_part_of word key amount
part_of (word ∷ from ∷ to ∷ amount ∷ []) = move_part_of word from to amount
part_of (word ∷ from ∷ to ∷ amount ∷ more ∷ words) = None

-- reading parts: a part of the words of each group
abbrev pub parts_in : List (List (List ℕ)) → Option (List Part)
parts_in groups = all_of part_of groups

-- reading the text of parts, between which the word `;` stands
unfoldable pub parts_of : List ℕ → Option (List Part)
parts_of text = parts_in (groups_of text)
