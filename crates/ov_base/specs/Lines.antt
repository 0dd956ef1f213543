-- Texts of lines, each ended by a line feed: reading one line after the other, up to the first fault.
use Rattle.std.specs.Prelude.{◌≡◌, ℕ, ◌+◌, ◌==◌, List, [], ◌∷◌, ◌++◌, length, Result, Ok, Err, if◌then◌else◌}
use Rattle.std.specs.List.{slice_split, flat_map}
use Rattle.ov_base.specs.declared.lines.LineError.{LineError}
use Rattle.ov_base.specs.declared.lines.LineError.TheVariants as errors

-- A fault, and the number of its line, from 1.
pub record Fault (F : Type 0) : Type 0 where
  pub line : ℕ
  pub fault : F

-- the fault of a line, or what is read after it
abbrev pub at_line : {S F : Type 0} → ℕ → Result S F → (S → Result S (Fault F)) → Result S (Fault F)
at_line k (Ok after) more = more after
at_line k (Err fault) more = Err (record { line = k; fault = fault })

-- The pieces round the line feeds: each but the last is a line, and behind the last line feed there is nothing. `step`
-- is what line k makes of what was read before it, and `unended` the fault of a line k without its line feed.
unfoldable pub read_from : {S F : Type 0} → (S → ℕ → List ℕ → Result S F) → (ℕ → F) → S → ℕ → List (List ℕ) → Result S (Fault F)
read_from step unended before k [] = Ok before
read_from step unended before k (last ∷ []) = if length last == 0 then Ok before else Err (record { line = k; fault = unended k })
read_from step unended before k (text ∷ next ∷ more) = at_line k (step before k text) (λ after. read_from step unended after (k + 1) (next ∷ more))

-- what a text of lines is read as
abbrev pub read_text : {S F : Type 0} → (S → ℕ → List ℕ → Result S F) → (ℕ → F) → S → List ℕ → Result S (Fault F)
read_text step unended before bytes = read_from step unended before 1 (slice_split (λ b. b == 10) bytes)

-- the text of lines, each with its line feed
abbrev pub lines_text : {A : Type 0} → (A → List ℕ) → List A → List ℕ
lines_text text lines = flat_map (λ line. text line ++ 10 ∷ []) lines

-- what a refusal says is what reading gives, unless memory ran out
abbrev pub Refuses : {S F : Type 0} → LineError F → Result S (Fault F) → Type 0
Refuses errors.Memory read = Unit {0}
Refuses (errors.Line line fault) read = read ≡ Err (record { line = line; fault = fault })

-- what a call returned is what reading gives, unless memory ran out
abbrev pub IsRead : {S F : Type 0} → Result S (LineError F) → Result S (Fault F) → Type 0
IsRead (Ok value) read = read ≡ Ok value
IsRead (Err error) read = Refuses error read

-- what a call that reads line k leaves: what the line makes of what was read before it, and where it refuses, its fault
abbrev pub TakesLine : {T S F : Type 0} → Result T (LineError F) → ℕ → S → Result S F → Type 0
TakesLine (Ok done) k new made = made ≡ Ok new
TakesLine (Err error) k new made = Refuses error (at_line k made (λ after. Ok after))

-- what is read, as something else that shows it
abbrev pub shown_as : {S Z E : Type 0} → (S → Z) → Result S E → Result Z E
shown_as show (Ok value) = Ok (show value)
shown_as show (Err error) = Err error
