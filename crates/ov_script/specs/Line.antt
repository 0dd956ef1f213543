-- The lines of a script: their text, which lines have one, and how a text is read.
use Rattle.std.specs.Prelude.{◌≡◌, ℕ, ◌<◌, ◌≤◌, ◌&&◌, nat_le, ◌==◌, true, List, [], ◌∷◌, ◌++◌, length, Option, Some, None, if◌then◌else◌, codes}
use Rattle.std.specs.List.{slice_split, list_all, AllByRecursion}
use Rattle.std.specs.Fmt.{decimal}
use Rattle.std.specs.Str.{bytes_eq}
use Rattle.ov_base.specs.Word.{◌>>=◌}
use Rattle.ov_base.specs.Split.{cut_at, pair_of, joined, all_of}
use Rattle.ov_base.specs.Number.{number_of}
use Rattle.ov_base.specs.Key.{IsKey, key_of}
use Rattle.ov_functor.specs.Transaction.{is_positive}
use Rattle.ov_functor.specs.Words.{parts_of, parts_text, IsParts}
use Rattle.ov_topology.specs.Actor.{gate_of, gate_text, IsGate}
use Rattle.ov_session.specs.Name.{IsName, name_of}
use Rattle.ov_session.specs.Standing.{most_commands}
use Rattle.ov_script.specs.declared.line.ScriptLine.{ScriptLine}
use Rattle.ov_script.specs.declared.line.ScriptLine.TheVariants.{Session, Do, Snap, After}

-- ---- the text of a line, without its line feed

-- keys with a space between them
abbrev pub keys_text : List (List ℕ) → List ℕ
keys_text keys = joined 32 keys

abbrev pub line_text : ScriptLine → List ℕ
line_text (Session name gate) = codes "session " ++ name ++ 32 ∷ gate_text gate
line_text (Do session parts) = session ++ codes " do " ++ parts_text parts
line_text (Snap session keys) = session ++ codes " snap " ++ keys_text keys
line_text (After session other seq) = session ++ codes " after " ++ other ++ 32 ∷ decimal seq

-- ---- the lines that have a text

-- there are keys, each in form
abbrev pub IsKeys : List (List ℕ) → Type 0
IsKeys [] = ⊥
IsKeys (key ∷ others) = AllByRecursion IsKey (key ∷ others)

-- the line is in form
abbrev pub IsLine : ScriptLine → Type 0
IsLine (Session name gate) = IsName name × IsGate gate
IsLine (Do session parts) = IsName session × IsParts parts
IsLine (Snap session keys) = IsName session × IsKeys keys
IsLine (After session other seq) = IsName session × IsName other × (1 ≤ seq) × (seq ≤ most_commands)

-- ---- reading a line

-- the number of a command, from 1 to 4000
abbrev pub seq_of : List ℕ → Option ℕ
seq_of bytes = number_of bytes >>= λ seq. if nat_le 1 seq && nat_le seq most_commands then Some seq else None

-- reading `SESSION GATEWAY`
abbrev pub session_of : List ℕ → Option ScriptLine
session_of rest = pair_of 32 name_of gate_of Session rest

-- reading one or more keys
abbrev pub keys_of : List ℕ → Option (List (List ℕ))
keys_of text = all_of key_of (slice_split (λ b. b == 32) text)

-- reading PARTS
abbrev pub do_of : List ℕ → List ℕ → Option ScriptLine
do_of session rest = parts_of rest >>= λ parts. Some (Do session parts)

-- reading the keys of a snapshot
abbrev pub snap_of : List ℕ → List ℕ → Option ScriptLine
snap_of session rest = keys_of rest >>= λ keys. Some (Snap session keys)

-- reading `SESSION N`
abbrev pub after_of : List ℕ → List ℕ → Option ScriptLine
after_of session rest = pair_of 32 name_of seq_of (After session) rest

-- what stands behind the name of a session, by its first word
abbrev pub kind_of : List ℕ → List ℕ → List ℕ → Option ScriptLine
kind_of session kind rest =
    if bytes_eq kind (codes "do") then do_of session rest
    else (if bytes_eq kind (codes "snap") then snap_of session rest
    else (if bytes_eq kind (codes "after") then after_of session rest else None))

-- a line that begins with the name of a session
abbrev pub named_of : List ℕ → List ℕ → Option ScriptLine
named_of first rest = do
  session ← name_of first
  words ← cut_at 32 rest
  kind_of session words.0 words.1

-- a line by its first word
abbrev pub first_of : List ℕ → List ℕ → Option ScriptLine
first_of first rest = if bytes_eq first (codes "session") then session_of rest else named_of first rest

-- the line of these bytes
unfoldable pub line_of : List ℕ → Option ScriptLine
line_of text = cut_at 32 text >>= λ words. first_of words.0 words.1

-- ---- the lines that may be added

-- there is something in the list
abbrev pub HasSome : {A : Type 0} → List A → Type 0
HasSome xs = 0 < length xs

-- No list is empty, and the numbers are in their ranges.
abbrev pub CanAdd : ScriptLine → Type 0
CanAdd (Session name gate) = IsGate gate
CanAdd (Do session parts) = HasSome parts × (list_all is_positive parts ≡ true)
CanAdd (Snap session keys) = HasSome keys
CanAdd (After session other seq) = (1 ≤ seq) × (seq ≤ most_commands)
