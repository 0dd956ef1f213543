-- Journals: the text of a list of entries, and how a text is read.
use Rattle.std.specs.Prelude.{◌≡◌, ℕ, ⊤, ◌==◌, List, [], ◌∷◌, ◌++◌, codes, Option, Some, None, Result, Ok, Err, if◌then◌else◌}
use Rattle.std.specs.Str.{bytes_eq}
use Rattle.ov_base.specs.Lines.{Fault, read_text, lines_text}
use Rattle.ov_event.specs.declared.entry.Entry.{Entry}
use Rattle.ov_journal.specs.Line.{entry_text}
use Rattle.ov_journal.specs.Read.{entry_of}
use Rattle.ov_journal.specs.declared.error.JournalError.{JournalError}
use Rattle.ov_journal.specs.declared.error.JournalError.TheVariants as errors

-- the first line
abbrev pub first_line : List ℕ
first_line = codes "oceanvista journal 1"

-- the text of a journal: the first line, and one for each entry, the oldest first
abbrev pub journal_text : List Entry → List ℕ
journal_text entries = first_line ++ 10 ∷ lines_text entry_text entries

-- ---- reading a journal

-- the entries, where the line is the first one of a journal
abbrev pub first_read : List Entry → List ℕ → Result (List Entry) ⊤
first_read entries text = if bytes_eq text first_line then Ok entries else Err tt

-- an entry more, where one was read
abbrev pub entry_read : List Entry → Option Entry → Result (List Entry) ⊤
entry_read entries None = Err tt
entry_read entries (Some entry) = Ok (entries ++ entry ∷ [])

-- what the bytes of line k make of the entries before it
abbrev pub line_read : List Entry → ℕ → List ℕ → Result (List Entry) ⊤
line_read entries k text = if k == 1 then first_read entries text else entry_read entries (entry_of text)

-- a last line without its line feed is off the grammar, whatever its number
abbrev pub unended : ℕ → ⊤
unended k = tt

-- the entries, or the number of the first line off the grammar
abbrev pub numbered : Result (List Entry) (Fault ⊤) → Result (List Entry) ℕ
numbered (Ok entries) = Ok entries
numbered (Err fault) = Err fault.line

-- the lines of a text
abbrev pub lines_of : List ℕ → Result (List Entry) (Fault ⊤)
lines_of bytes = read_text line_read unended [] bytes

-- the entries of a text, or the number of the first line off the grammar; the empty text lacks its first line
abbrev pub journal_of : List ℕ → Result (List Entry) ℕ
journal_of [] = Err 1
journal_of (byte ∷ bytes) = numbered (lines_of (byte ∷ bytes))

-- what a front is read as, where the lines of these entries follow it
abbrev pub followed : Result (List Entry) ℕ → List Entry → Result (List Entry) ℕ
followed (Ok entries) more = Ok (entries ++ more)
followed (Err line) more = Err line

-- what a refusal says is what reading gives, unless memory ran out
abbrev pub Fails : JournalError → Result (List Entry) ℕ → Type 0
Fails errors.Memory read = Unit {0}
Fails (errors.Line line) read = read ≡ Err line

-- what a call returned, of which these are the entries, is what reading gives, unless memory ran out
abbrev pub Gives : {V : Type 0} → (V → List Entry) → Result V JournalError → Result (List Entry) ℕ → Type 0
Gives entries (Ok value) read = read ≡ Ok (entries value)
Gives entries (Err error) read = Fails error read
