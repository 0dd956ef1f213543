-- A word of a text: which bytes a value is written as, which values have a spelling, what its reader returns,
-- and what its writer leaves.
use Rattle.std.specs.Prelude.{◌≡◌, ℕ, List, ◌++◌, Option, Some, None, Result, Ok, Err}

-- the result of a reader: the value that the bytes are the spelling of, and nothing where they spell none
abbrev pub Reads : {A : Type 0} → (A → List ℕ) → (A → Type 0) → List ℕ → Option A → Type 0
Reads text Fits bytes None = (v : _) → Fits v → bytes ≡ text v → ⊥
Reads text Fits bytes (Some v) = Fits v × (bytes ≡ text v)

-- a step that may give nothing, and the next one
infixl 10 ◌>>=◌
abbrev pub ◌>>=◌ : {A B : Type 0} → Option A → (A → Option B) → Option B
None >>= f = None
(Some x) >>= f = f x

-- the spelling of what is its own spelling
abbrev pub itself : List ℕ → List ℕ
itself bytes = bytes

-- a prefix of what is to be added stands behind what was there
abbrev pub AddsFront : {X : Type 0} → List X → List X → List X → Type 0
AddsFront {X} old new added = (front : List X) × (back : List X) × (added ≡ front ++ back) × (new ≡ old ++ front)

-- what a writer left: on Ok the text stands behind what was there, on Err a prefix of it
abbrev pub Printed : {T E : Type 0} → Result T E → List ℕ → List ℕ → List ℕ → Type 0
Printed (Ok done) old new text = new ≡ old ++ text
Printed (Err error) old new text = AddsFront old new text
