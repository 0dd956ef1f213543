-- A journal read from its last line: what is read of a front tells what is read of the front and the lines of entries behind it.
use Rattle.std.proofs.Common.{◌≡◌, ℕ, ◌+◌, Bool, true, false, eqb, List, [], ◌∷◌, ◌++◌, length, take, reverse, Option, Some, None, Result, Ok, Err, refl, sym, ap, ◌∙◌, append_assoc, inl, inr}
use Rattle.std.specs.Prelude.{⊤}
use Rattle.std.specs.List.{slice_split, AllByRecursion}
use Rattle.std.proofs.Math.Seq.{take-append-add}
use Rattle.std.proofs.lemmas.Bool.{cases_Bool}
use Rattle.std.proofs.lemmas.List.{append-nil, reverse-append}
use Rattle.std.proofs.lemmas.List.Splits.{slice_split-cons_yes, slice_split-cons_no}
use Rattle.ov_base.specs.Lines.{Fault, at_line, read_from, lines_text}
use Rattle.ov_base.proofs.Joins.{split_some}
use Rattle.ov_event.specs.declared.entry.Entry.{Entry}
use Rattle.ov_journal.specs.Line.{HasLine, entry_text}
use Rattle.ov_journal.specs.Read.{added_entry, entry_of}
use Rattle.ov_journal.specs.Journal.{first_line, followed, journal_of, journal_text, line_read, lines_of, numbered, unended}
use Rattle.ov_journal.proofs.Journals.{journal_again, journal_takes}
use Rattle.ov_journal.proofs.LineTakes.{entry_takes}

-- ---- the first fault of a front of whole lines is that of all lines

-- a front that ends in a line feed and what stands behind it have their own pieces
split_behind : (xs ys : List ℕ) → slice_split (λ b. eqb b 10) (xs ++ 10 ∷ ys) ≡ slice_split (λ b. eqb b 10) xs ++ slice_split (λ b. eqb b 10) ys
split_behind [] ys = refl
split_behind (x ∷ xs) ys =
    elim (cases_Bool (eqb x 10)) [
      | inl here ↦ rw (slice_split-cons_yes (λ b. eqb b 10) x xs here, slice_split-cons_yes (λ b. eqb b 10) x (xs ++ 10 ∷ ys) here) (ap (λ (t : List (List ℕ)). [] ∷ t) (split_behind xs ys))
      | inr past ↦ let some = split_some (λ b. eqb b 10) xs in
          rw (slice_split-cons_no (λ b. eqb b 10) x xs past, slice_split-cons_no (λ b. eqb b 10) x (xs ++ 10 ∷ ys) past, split_behind xs ys, some.2) refl
    ]

at_fault : (k : ℕ) (r : Result (List Entry) ⊤) (more other : List Entry → Result (List Entry) (Fault ⊤)) (fault : Fault ⊤)
    → ((after : List Entry) → more after ≡ Err fault → other after ≡ Err fault) → at_line k r more ≡ Err fault → at_line k r other ≡ Err fault
at_fault k (Ok after) more other fault same e = same after e
at_fault k (Err bad) more other fault same e = e

no_fault : (before : List Entry) (k : ℕ) (fault : Fault ⊤) {P : Type 0} → read_from line_read unended before k ([] ∷ []) ≡ Err fault → P
unfolding read_from
no_fault before k fault e = let bad : ◌≡◌ {A = Result (List Entry) (Fault ⊤)} (Ok before) (Err fault) = e in absurd cc

-- a fault of lines, the last of which has its line feed, stays the first one whatever stands behind them
fault_of_lines : (pieces : List (List ℕ)) (next : List ℕ) (others : List (List ℕ)) (before : List Entry) (k : ℕ) (fault : Fault ⊤)
    → read_from line_read unended before k (pieces ++ [] ∷ []) ≡ Err fault → read_from line_read unended before k (pieces ++ next ∷ others) ≡ Err fault
unfolding read_from
fault_of_lines [] next others before k fault e = no_fault before k fault e
fault_of_lines (piece ∷ []) next others before k fault e =
    at_fault k (line_read before k piece) (λ after. read_from line_read unended after (k + 1) ([] ∷ [])) (λ after. read_from line_read unended after (k + 1) (next ∷ others)) fault
    (λ after bad. no_fault after (k + 1) fault bad) e
fault_of_lines (piece ∷ second ∷ pieces) next others before k fault e =
    at_fault k (line_read before k piece) (λ after. read_from line_read unended after (k + 1) (second ∷ pieces ++ [] ∷ [])) (λ after. read_from line_read unended after (k + 1) (second ∷ pieces ++ next ∷ others)) fault
    (λ after bad. fault_of_lines (second ∷ pieces) next others after (k + 1) fault bad) e

not_empty : (front more : List ℕ) → journal_of (front ++ 10 ∷ more) ≡ numbered (lines_of (front ++ 10 ∷ more))
not_empty [] more = refl
not_empty (byte ∷ front) more = refl

numbered_err : (r : Result (List Entry) (Fault ⊤)) (k : ℕ) → numbered r ≡ Err k → (fault : Fault ⊤) × (r ≡ Err fault) × (fault.line ≡ k)
numbered_err (Ok entries) k e = absurd cc
numbered_err (Err fault) k e = (fault, refl, cc)

-- the same of texts
fault_of_front : (front more : List ℕ) (k : ℕ) → journal_of (front ++ 10 ∷ []) ≡ Err k → journal_of (front ++ 10 ∷ more) ≡ Err k
fault_of_front front more k e =
    let found = numbered_err (lines_of (front ++ 10 ∷ [])) k (sym (not_empty front []) ∙ e) in
    let some = split_some (λ b. eqb b 10) more in
    let pieces = slice_split (λ b. eqb b 10) front in
    let here : read_from line_read unended [] 1 (pieces ++ [] ∷ []) ≡ Err found.0 = ap (read_from line_read unended [] 1) (sym (split_behind front [])) ∙ found.1 in
    let all : lines_of (front ++ 10 ∷ more) ≡ Err found.0 =
    ap (read_from line_read unended [] 1) (split_behind front more ∙ ap (λ (t : List (List ℕ)). pieces ++ t) some.2)
    ∙ fault_of_lines pieces some.0 some.1 [] 1 found.0 here in
    not_empty front more ∙ ap numbered all ∙ ap (λ (t : ℕ). Err t) found.2

-- ---- one line of an entry behind a front

one_more_text : (entries : List Entry) (entry : Entry) → lines_text entry_text (entries ++ entry ∷ []) ≡ lines_text entry_text entries ++ (entry_text entry ++ 10 ∷ [])
one_more_text [] entry = append-nil (entry_text entry ++ 10 ∷ [])
one_more_text (first ∷ entries) entry =
    ap (λ (t : List ℕ). (entry_text first ++ 10 ∷ []) ++ t) (one_more_text entries entry)
    ∙ sym (append_assoc (entry_text first ++ 10 ∷ []) (lines_text entry_text entries) (entry_text entry ++ 10 ∷ []))

one_more_line : (entries : List Entry) (entry : Entry) → AllByRecursion HasLine entries → HasLine entry → AllByRecursion HasLine (entries ++ entry ∷ [])
one_more_line [] entry each one = (one, tt)
one_more_line (first ∷ entries) entry each one = (each.0, one_more_line entries entry each.1 one)

-- the text of a journal and the line of an entry
one_more : (entries : List Entry) (entry : Entry) → journal_text entries ++ (entry_text entry ++ 10 ∷ []) ≡ journal_text (entries ++ entry ∷ [])
one_more entries entry =
    append_assoc first_line (10 ∷ lines_text entry_text entries) (entry_text entry ++ 10 ∷ [])
    ∙ ap (λ (t : List ℕ). first_line ++ 10 ∷ t) (sym (one_more_text entries entry))

-- a line of an entry behind a front of whole lines adds its entry to what the front is read as
line_behind : (front line : List ℕ) (entry : Entry) → entry_of line ≡ Some entry
    → journal_of (front ++ 10 ∷ line ++ 10 ∷ []) ≡ followed (journal_of (front ++ 10 ∷ [])) (entry ∷ [])
line_behind front line entry e = by (journal_of (front ++ 10 ∷ [])) refl
  where
    by : (r : Result (List Entry) ℕ) → journal_of (front ++ 10 ∷ []) ≡ r → journal_of (front ++ 10 ∷ line ++ 10 ∷ []) ≡ followed r (entry ∷ [])
    by (Ok entries) is =
        let read = journal_takes (front ++ 10 ∷ []) entries is in
        let one = entry_takes line entry e in
        let whole : front ++ 10 ∷ line ++ 10 ∷ [] ≡ journal_text (entries ++ entry ∷ []) =
        append_assoc front (10 ∷ line) (10 ∷ [])
        ∙ sym (append_assoc front (10 ∷ []) (line ++ 10 ∷ []))
        ∙ ap (λ (t : List ℕ). t ++ (line ++ 10 ∷ [])) read.1
        ∙ ap (λ (t : List ℕ). journal_text entries ++ (t ++ 10 ∷ [])) one.1
        ∙ one_more entries entry in
        ap journal_of whole ∙ journal_again (entries ++ entry ∷ []) (one_more_line entries entry read.0 one.0)
    by (Err k) is = ap journal_of (append_assoc front (10 ∷ line) (10 ∷ [])) ∙ fault_of_front front (line ++ 10 ∷ []) k is

-- ---- the loop

-- no lines behind a front
pub followed_none : (r : Result (List Entry) ℕ) → r ≡ followed r []
followed_none (Ok entries) = ap (λ (t : List Entry). Ok t) (sym (append-nil entries))
followed_none (Err k) = refl

followed_twice : (r : Result (List Entry) ℕ) (xs ys : List Entry) → followed (followed r xs) ys ≡ followed r (xs ++ ys)
followed_twice (Ok entries) xs ys = ap (λ (t : List Entry). Ok t) (append_assoc entries xs ys)
followed_twice (Err k) xs ys = refl

-- a line that was read added its entry
read_entry : (entries more : List Entry) (o : Option Entry) → (true, more) ≡ added_entry entries o → (entry : Entry) × (o ≡ Some entry) × (more ≡ entries ++ entry ∷ [])
read_entry entries more None e = let bad : true ≡ false = ap (λ (p : Bool × List Entry). p.0) e in absurd cc
read_entry entries more (Some entry) e = (entry, refl, ap (λ (p : Bool × List Entry). p.1) e)

-- a line that was not read added nothing
pub nothing_read : (entries more : List Entry) (o : Option Entry) → (false, more) ≡ added_entry entries o → more ≡ entries
nothing_read entries more None e = ap (λ (p : Bool × List Entry). p.1) e
nothing_read entries more (Some entry) e = let bad : false ≡ true = ap (λ (p : Bool × List Entry). p.0) e in absurd cc

-- one more line was taken off the end
pub next_taken : (whole front line : List ℕ) (entries more : List Entry)
    → journal_of whole ≡ followed (journal_of (front ++ 10 ∷ line ++ 10 ∷ [])) (reverse entries) → (true, more) ≡ added_entry entries (entry_of line)
    → journal_of whole ≡ followed (journal_of (front ++ 10 ∷ [])) (reverse more)
next_taken whole front line entries more is added =
    let read = read_entry entries more (entry_of line) added in
    is
    ∙ ap (λ (r : Result (List Entry) ℕ). followed r (reverse entries)) (line_behind front line read.0 read.1)
    ∙ followed_twice (journal_of (front ++ 10 ∷ [])) (read.0 ∷ []) (reverse entries)
    ∙ ap (followed (journal_of (front ++ 10 ∷ []))) (sym (ap reverse read.2 ∙ reverse-append entries (read.0 ∷ [])))

-- a front and its line feed are what is kept of a text
pub kept_front : (front line : List ℕ) → take (length front + 1) (front ++ 10 ∷ line ++ 10 ∷ []) ≡ front ++ 10 ∷ []
kept_front front line = ap (take (length front + 1)) (append_assoc front (10 ∷ line) (10 ∷ [])) ∙ take-append-add front (10 ∷ (line ++ 10 ∷ [])) 1
