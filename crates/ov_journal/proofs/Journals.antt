-- A journal that is read is that of its entries, each of which has a line, and the text of such entries is read as them.
use Rattle.std.proofs.Common.{◌≡◌, ℕ, ◌+◌, ◌≤◌, Bool, true, false, cond, eqb, List, [], ◌∷◌, ◌++◌, length, Option, Some, None, Result, Ok, Err, IfOk, refl, sym, ap, subst, ◌∙◌, arith, inl, inr}
use Rattle.std.specs.Prelude.{⊤}
use Rattle.std.specs.List.{slice_split, AllByRecursion}
use Rattle.std.specs.Str.{bytes_eq}
use Rattle.std.proofs.lemmas.Bool.{eqb-true}
use Rattle.std.proofs.lemmas.Bool.Decides.{eqb_tells}
use Rattle.ov_base.specs.Lines.{Fault, at_line, read_from, lines_text}
use Rattle.ov_base.specs.Split.{joined, lacks}
use Rattle.std.proofs.lemmas.List.{nil_from_length}
use Rattle.std.proofs.lemmas.List.Splits.{slice_split_at}
use Rattle.std.proofs.lemmas.List.Elements.{All-from_recursion}
use Rattle.ov_base.proofs.Joins.{joined_split, lacks_each, split_some}
use Rattle.ov_base.proofs.LineTexts.{Adds, Follows, follows_each, lines_split, pieces_again, pieces_of, pieces_take, read_line}
use Rattle.ov_base.proofs.Readers.{word_is}
use Rattle.ov_event.specs.declared.entry.Entry.{Entry}
use Rattle.ov_journal.specs.Line.{HasLine, entry_text}
use Rattle.ov_journal.specs.Read.{entry_of}
use Rattle.ov_journal.specs.declared.error.JournalError.{JournalError}
use Rattle.ov_journal.specs.Journal.{Gives, entry_read, first_line, first_read, journal_of, journal_text, line_read, lines_of, numbered, unended}
use Rattle.ov_journal.proofs.LineTakes.{entry_takes}
use Rattle.ov_journal.proofs.LineAgain.{entry_again, entry_lacks}

-- ---- the lines behind the first

-- what a line of an entry makes of the entries before it
abbrev entry_line : List Entry → ℕ → List ℕ → Result (List Entry) ⊤
entry_line entries k text = entry_read entries (entry_of text)

abbrev Fits : List Entry → ℕ → Entry → Type 0
Fits before k entry = HasLine entry

same_then : (k : ℕ) (r : Result (List Entry) ⊤) (more other : List Entry → Result (List Entry) (Fault ⊤)) → ((after : List Entry) → more after ≡ other after)
    → at_line k r more ≡ at_line k r other
same_then k (Ok after) more other same = same after
same_then k (Err fault) more other same = refl

-- from the second line on each is that of an entry
from_second : (before : List Entry) (k : ℕ) (pieces : List (List ℕ)) → 2 ≤ k → read_from line_read unended before k pieces ≡ read_from entry_line unended before k pieces
unfolding read_from
from_second before k [] late = refl
from_second before k (last ∷ []) late = refl
from_second before k (text ∷ next ∷ more) late =
    elim (eqb_tells k 1) [
      | inl e ↦ absurd (omega (arith, e.1))
      | inr e ↦ rw e.0 (same_then k (entry_line before k text) _ _ (λ after. from_second after (k + 1) (next ∷ more) (omega arith)))
    ]

-- ---- what is read

line_adds : (before : List Entry) (text : List ℕ) (after : List Entry) (o : Option Entry) (k : ℕ) → entry_of text ≡ o → entry_read before o ≡ Ok after
    → Adds entry_text Fits before k text after
line_adds before text after None k is e = absurd cc
line_adds before text after (Some entry) k is e = let t = entry_takes text entry is in record { item = entry; fits = t.0; added = cc; spelled = t.1 }

line_takes : (before : List Entry) (k : ℕ) (text : List ℕ) (after : List Entry) → entry_line before k text ≡ Ok after → Adds entry_text Fits before k text after
line_takes before k text after e = line_adds before text after (entry_of text) k refl e

first_takes : (b : Bool) (after : List Entry) → cond {A = Result (List Entry) ⊤} b (Ok []) (Err tt) ≡ Ok after → (b ≡ true) × ([] ≡ after)
first_takes true after e = (refl, cc)
first_takes false after e = absurd cc

-- the text of entries behind the first line
abbrev IsJournal : List ℕ → List Entry → Type 0
IsJournal bytes entries = AllByRecursion HasLine entries × (bytes ≡ journal_text entries)

read_after : (k : ℕ) (r : Result (List Entry) ⊤) (more : List Entry → Result (List Entry) (Fault ⊤)) (last : List Entry) {P : Type 0}
    → at_line k r more ≡ Ok last → ((after : List Entry) → r ≡ Ok after → more after ≡ Ok last → P) → P
read_after k (Ok after) more last e f = f after refl e
read_after k (Err fault) more last e f = absurd cc

ended : (b : Bool) (entries : List Entry) (fault : Fault ⊤) → cond {A = Result (List Entry) (Fault ⊤)} b (Ok []) (Err fault) ≡ Ok entries → b ≡ true
ended true entries fault e = refl
ended false entries fault e = absurd cc

pieces_journal : (piece : List ℕ) (pieces : List (List ℕ)) (entries : List Entry) → (piece ≡ [] → pieces ≡ [] → ⊥) → read_from line_read unended [] 1 (piece ∷ pieces) ≡ Ok entries
    → IsJournal (joined 10 (piece ∷ pieces)) entries
unfolding read_from
pieces_journal piece [] entries some e =
    absurd (some (nil_from_length piece (eqb-true (length piece) 0 (ended (eqb (length piece) 0) entries (record { line = 1; fault = tt }) e))) refl)
pieces_journal piece (next ∷ pieces) entries some e =
    read_after 1 (first_read [] piece) (λ after. read_from line_read unended after 2 (next ∷ pieces)) entries e λ after first rest.
    let f = first_takes (bytes_eq piece first_line) after first in
    let others : read_from entry_line unended [] 2 (next ∷ pieces) ≡ Ok entries =
    sym (from_second [] 2 (next ∷ pieces) (omega arith)) ∙ ap (λ (t : List Entry). read_from line_read unended t 2 (next ∷ pieces)) f.1 ∙ rest in
    let t = pieces_take entry_line unended entry_text Fits line_takes next pieces [] 2 entries others in
    let is : entries ≡ t.more = t.all in (
      subst (AllByRecursion HasLine) (sym is) (follows_each Fits HasLine (λ before k entry h. h) [] 2 t.more t.fit),
      rw (word_is piece first_line f.0, t.spelled) (ap journal_text (sym is)),
    )

numbered_ok : (r : Result (List Entry) (Fault ⊤)) (entries : List Entry) → numbered r ≡ Ok entries → r ≡ Ok entries
numbered_ok (Ok read) entries e = ap (λ (t : List Entry). Ok t) cc
numbered_ok (Err fault) entries e = absurd cc

-- a journal that is read is that of its entries, each of which has a line
pub journal_takes : (bytes : List ℕ) (entries : List Entry) → journal_of bytes ≡ Ok entries → AllByRecursion HasLine entries × (bytes ≡ journal_text entries)
journal_takes [] entries e = absurd cc
journal_takes (byte ∷ bytes) entries e =
    let pieces = split_some (λ b. eqb b 10) (byte ∷ bytes) in
    let text : joined 10 (pieces.0 ∷ pieces.1) ≡ byte ∷ bytes =
    ap (joined 10) (sym pieces.2) ∙ joined_split (λ b. eqb b 10) 10 (λ x h. eqb-true x 10 h) (byte ∷ bytes) in
    let some : pieces.0 ≡ [] → pieces.1 ≡ [] → ⊥ =
    λ p q. let bad : ◌≡◌ {A = List ℕ} [] (byte ∷ bytes) = ap (λ (t : List (List ℕ)). joined 10 t) (sym (ap (λ (t : List ℕ). t ∷ pieces.1) p ∙ ap (λ (t : List (List ℕ)). [] ∷ t) q)) ∙ text in absurd cc in
    subst (λ (t : List ℕ). IsJournal t entries) text (pieces_journal pieces.0 pieces.1 entries some (rw pieces.2 at (numbered_ok (lines_of (byte ∷ bytes)) entries e)))

-- the same of what a call returned
pub given_takes : {V : Type 0} (entries : V → List Entry) (r : Result V JournalError) (bytes : List ℕ) → Gives entries r (journal_of bytes)
    → IfOk r (λ v. AllByRecursion HasLine (entries v) × (bytes ≡ journal_text (entries v)))
given_takes entries (Ok value) bytes h = journal_takes bytes (entries value) h
given_takes entries (Err error) bytes h = tt

-- ---- what is written is read again

line_again : (before : List Entry) (k : ℕ) (entry : Entry) → HasLine entry → entry_line before k (entry_text entry) ≡ Ok (before ++ entry ∷ [])
line_again before k entry h = rw (entry_again entry h) refl

fit_all : (before : List Entry) (k : ℕ) (entries : List Entry) → AllByRecursion HasLine entries → Follows Fits before k entries
fit_all before k [] h = tt
fit_all before k (entry ∷ entries) h = (h.0, fit_all (before ++ entry ∷ []) (k + 1) entries h.1)

lack_all : (entries : List Entry) → AllByRecursion HasLine entries → AllByRecursion (λ entry. lacks 10 (entry_text entry) ≡ true) entries
lack_all [] h = tt
lack_all (entry ∷ entries) h = (entry_lacks entry h.0, lack_all entries h.1)

-- there is a piece behind the first line
some_piece : (entries : List Entry) → (piece : List ℕ) × (pieces : List (List ℕ)) × (pieces_of entry_text entries ≡ piece ∷ pieces)
some_piece [] = ([], [], refl)
some_piece (entry ∷ entries) = (entry_text entry, pieces_of entry_text entries, refl)

behind_first : (pieces : List (List ℕ)) → (piece : List ℕ) (others : List (List ℕ)) → pieces ≡ piece ∷ others
    → read_from line_read unended [] 1 (first_line ∷ pieces) ≡ read_from entry_line unended [] 2 pieces
behind_first pieces piece others e =
    ap (λ (t : List (List ℕ)). read_from line_read unended [] 1 (first_line ∷ t)) e
    ∙ read_line line_read unended [] [] 1 first_line piece others refl
    ∙ from_second [] 2 (piece ∷ others) (omega arith)
    ∙ ap (λ (t : List (List ℕ)). read_from entry_line unended [] 2 t) (sym e)

-- the text of entries that have lines is read as these entries
pub journal_again : (entries : List Entry) → AllByRecursion HasLine entries → journal_of (journal_text entries) ≡ Ok entries
journal_again entries h =
    let rest : slice_split (λ b. eqb b 10) (lines_text entry_text entries) ≡ pieces_of entry_text entries = lines_split entry_text entries (lack_all entries h) in
    let cut : slice_split (λ b. eqb b 10) (journal_text entries) ≡ first_line ∷ pieces_of entry_text entries =
    slice_split_at (λ b. eqb b 10) first_line 10 (lines_text entry_text entries) (All-from_recursion (λ x. eqb x 10 ≡ false) first_line (lacks_each 10 first_line refl)) refl
    ∙ ap (λ (t : List (List ℕ)). first_line ∷ t) rest in
    let some = some_piece entries in
    let read : lines_of (journal_text entries) ≡ Ok entries =
    ap (read_from line_read unended [] 1) cut
    ∙ behind_first (pieces_of entry_text entries) some.0 some.1 some.2
    ∙ pieces_again entry_line unended entry_text Fits line_again [] 2 entries (fit_all [] 2 entries h) in
    ap numbered read
