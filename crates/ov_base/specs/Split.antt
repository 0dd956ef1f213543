-- Cutting bytes at the first place of a byte, joining pieces, and reading each of a list.
use Rattle.std.specs.Prelude.{ℕ, Bool, true, false, ◌==◌, List, [], ◌∷◌, ◌++◌, Option, Some, None, if◌then◌else◌}
use Rattle.std.specs.Option.{option_map}
use Rattle.ov_base.specs.Word.{◌>>=◌}

-- these bytes in front of the first part
abbrev pub onto : List ℕ → List ℕ × List ℕ → List ℕ × List ℕ
onto front p = (front ++ p.0, p.1)

-- the bytes before the first b, and those behind it
abbrev pub cut_at : ℕ → List ℕ → Option (List ℕ × List ℕ)
cut_at b [] = None
cut_at b (x ∷ xs) = if x == b then Some ([], xs) else option_map (onto (x ∷ [])) (cut_at b xs)

-- whether b is not among the bytes
abbrev pub lacks : ℕ → List ℕ → Bool
lacks b [] = true
lacks b (x ∷ xs) = if x == b then false else lacks b xs

-- the pieces, with y between them
abbrev pub joined : {X : Type 0} → X → List (List X) → List X
joined y [] = []
joined y (piece ∷ []) = piece
joined y (piece ∷ next ∷ pieces) = piece ++ y ∷ joined y (next ∷ pieces)

-- what f gives at each of a list, or nothing where it gives nothing at one
abbrev pub all_of : {A B : Type 0} → (A → Option B) → List A → Option (List B)
all_of f [] = Some []
all_of f (x ∷ xs) = f x >>= λ y. all_of f xs >>= λ ys. Some (y ∷ ys)

-- reading two words with the byte b between them, of which `first` reads the one and `second` the other
abbrev pub pair_of : {A B C : Type 0} → ℕ → (List ℕ → Option A) → (List ℕ → Option B) → (A → B → C) → List ℕ → Option C
pair_of b first second make text = do
  words ← cut_at b text
  x ← first words.0
  y ← second words.1
  Some (make x y)

-- the values so far, and those of the rest
abbrev pub with_front : {B : Type 0} → List B → Option (List B) → Option (List B)
with_front front rest = rest >>= λ ys. Some (front ++ ys)
