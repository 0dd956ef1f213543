-- Texts of lines: the loop that reads one, and what is read against what is printed.
use Rattle.std.proofs.Common.{◌≡◌, ℕ, ◌+◌, ◌≤◌, Bool, true, false, cond, eqb, List, [], ◌∷◌, ◌++◌, length, Some, None, Result, Ok, Err, refl, sym, ap, subst, ◌∙◌, arith, append_assoc}
use Rattle.std.specs.List.{slice_split, AllByRecursion}
use Rattle.std.proofs.lemmas.Bool.{eqb-true}
use Rattle.std.proofs.lemmas.List.{append-nil, nil_from_length}
use Rattle.ov_base.specs.Split.{cut_at, joined, lacks}
use Rattle.ov_base.proofs.Joins.{Lacks, lacks_each, joined_split, split_again, split_cut, split_some, split_uncut, HasFirst}
use Rattle.ov_base.specs.Lines.{Fault, at_line, read_from, read_text, lines_text, Refuses, shown_as}
use Rattle.ov_base.specs.declared.lines.LineError.{LineError}
use Rattle.ov_base.specs.declared.lines.LineError.TheVariants as errors

-- what a line makes of the lines before it
abbrev pub Steps : Type 0 → Type 0 → Type 0
Steps S F = S → ℕ → List ℕ → Result S F

-- ---- the loop that cuts off one line after the other

-- the pieces of a text round its line feeds
abbrev pub pieces_in : List ℕ → List (List ℕ)
pieces_in bytes = slice_split (λ b. eqb b 10) bytes

-- behind the last line feed: nothing, or a line without its line feed
pub read_last : {S F : Type 0} (step : Steps S F) (unended : ℕ → F) (before : S) (k : ℕ) (rest : List ℕ) → cut_at 10 rest ≡ None
    → read_from step unended before k (pieces_in rest) ≡ cond (eqb (length rest) 0) (Ok before) (Err (record { line = k; fault = unended k }))
unfolding read_from
read_last step unended before k rest e = rw (split_uncut 10 rest e) refl

-- before a line feed: a line, and the rest
pub read_more : {S F : Type 0} (step : Steps S F) (unended : ℕ → F) (before : S) (k : ℕ) (rest line others : List ℕ) → cut_at 10 rest ≡ Some (line, others)
    → read_from step unended before k (pieces_in rest) ≡ at_line k (step before k line) (λ after. read_from step unended after (k + 1) (pieces_in others))
unfolding read_from
read_more step unended before k rest line others e = let some = split_some (λ b. eqb b 10) others in rw (split_cut 10 rest line others e, some.2) refl

-- the same where the line has no fault
pub read_next : {S F : Type 0} (step : Steps S F) (unended : ℕ → F) (before after : S) (k : ℕ) (rest line others : List ℕ) → cut_at 10 rest ≡ Some (line, others)
    → step before k line ≡ Ok after → read_from step unended before k (pieces_in rest) ≡ read_from step unended after (k + 1) (pieces_in others)
read_next step unended before after k rest line others e is =
    read_more step unended before k rest line others e ∙ ap (λ (r : Result _ _). at_line k r (λ after. read_from step unended after (k + 1) (pieces_in others))) is

-- a fault of a line is the first fault of the text from there on
pub refuses_then : {S F : Type 0} (error : LineError F) (k : ℕ) (r : Result S F) (more : S → Result S (Fault F)) (read : Result S (Fault F))
    → Refuses error (at_line k r (λ after. Ok after)) → read ≡ at_line k r more → Refuses error read
refuses_then errors.Memory k r more read h is = tt
refuses_then (errors.Line line fault) k (Ok after) more read h is = absurd cc
refuses_then (errors.Line line fault) k (Err other) more read h is = is ∙ h

-- ---- what is read, as something else that shows it

-- where each line makes of what shows a state what shows what it makes of the state, so does a text
pub read_shown : {S Z F : Type 0} (show : S → Z) (step : Steps S F) (other : Steps Z F) (unended : ℕ → F)
    → ((before : S) (k : ℕ) (text : List ℕ) → other (show before) k text ≡ shown_as show (step before k text))
    → (before : S) (k : ℕ) (pieces : List (List ℕ)) → read_from other unended (show before) k pieces ≡ shown_as show (read_from step unended before k pieces)
unfolding read_from
read_shown show step other unended each before k [] = refl
read_shown {S} {Z} {F} show step other unended each before k (last ∷ []) = ended (eqb (length last) 0)
  where
    ended : (b : Bool)
        → cond {A = Result Z (Fault F)} b (Ok (show before)) (Err (record { line = k; fault = unended k })) ≡ shown_as show (cond {A = Result S (Fault F)} b (Ok before) (Err (record { line = k; fault = unended k })))
    ended true = refl
    ended false = refl
read_shown {S} {Z} {F} show step other unended each before k (text ∷ next ∷ more) =
    ap (λ (r : Result Z F). at_line k r (λ after. read_from other unended after (k + 1) (next ∷ more))) (each before k text)
    ∙ by (step before k text) (λ after. read_shown show step other unended each after (k + 1) (next ∷ more))
  where
    by : (r : Result S F) → ((after : S) → read_from other unended (show after) (k + 1) (next ∷ more) ≡ shown_as show (read_from step unended after (k + 1) (next ∷ more)))
        → at_line k (shown_as show r) (λ after. read_from other unended after (k + 1) (next ∷ more)) ≡ shown_as show (at_line k r (λ after. read_from step unended after (k + 1) (next ∷ more)))
    by (Ok after) rest = rest after
    by (Err fault) rest = refl

-- ---- lists of lines, each of which fits behind those before it

-- Each line fits behind those before it; the number of the first is k.
abbrev pub Follows : {A : Type 0} → (List A → ℕ → A → Type 0) → List A → ℕ → List A → Type 0
Follows Fits before k [] = Unit {0}
Follows Fits before k (item ∷ items) = Fits before k item × Follows Fits (before ++ item ∷ []) (k + 1) items

-- what holds of each line that fits behind others holds of each of them
pub follows_each : {A : Type 0} (Fits : List A → ℕ → A → Type 0) (Holds : A → Type 0) → ((before : List A) (k : ℕ) (item : A) → Fits before k item → Holds item)
    → (before : List A) (k : ℕ) (items : List A) → Follows Fits before k items → AllByRecursion Holds items
follows_each Fits Holds holds before k [] h = tt
follows_each Fits Holds holds before k (item ∷ items) h = (holds before k item h.0, follows_each Fits Holds holds (before ++ item ∷ []) (k + 1) items h.1)

-- where no line fits from a number on, there are so few lines
pub follows_few : {A : Type 0} (Fits : List A → ℕ → A → Type 0) (most : ℕ) → ((before : List A) (k : ℕ) (item : A) → Fits before k item → k ≤ most)
    → (before : List A) (k : ℕ) (items : List A) → k ≤ most + 1 → Follows Fits before k items → length items + k ≤ most + 1
follows_few Fits most low before k [] le h = omega arith
follows_few Fits most low before k (item ∷ items) le h =
    omega (arith, follows_few Fits most low (before ++ item ∷ []) (k + 1) items (omega (arith, low before k item h.0)) h.1)

-- ---- what is read is the text of what was read

-- What one line adds: it fits behind those before it, and its bytes are its text.
pub record Adds {A : Type 0} (text : A → List ℕ) (Fits : List A → ℕ → A → Type 0) (before : List A) (k : ℕ) (bytes : List ℕ) (after : List A) : Type 0 where
  pub item : A
  pub fits : Fits before k item
  pub added : after ≡ before ++ item ∷ []
  pub spelled : bytes ≡ text item

at_ok : {S F P : Type 0} (k : ℕ) (r : Result S F) (more : S → Result S (Fault F)) (last : S)
    → at_line k r more ≡ Ok last → ((after : S) → r ≡ Ok after → more after ≡ Ok last → P) → P
at_ok k (Ok after) more last e g = g after refl e
at_ok k (Err fault) more last e g = absurd cc

empty_is : (xs : List ℕ) → eqb (length xs) 0 ≡ true → xs ≡ []
empty_is xs e = nil_from_length xs (eqb-true (length xs) 0 e)

last_takes : {S F : Type 0} (b : Bool) (before last : S) (fault : Fault F) → cond b (Ok before) (Err fault) ≡ Ok last → (b ≡ true) × (before ≡ last)
last_takes true before last fault e = (refl, cc)
last_takes false before last fault e = absurd cc

one_more : (piece line rest others : List ℕ) → piece ≡ line → rest ≡ others → piece ++ 10 ∷ rest ≡ (line ++ 10 ∷ []) ++ others
one_more piece line rest others e f = rw (e, f) (sym (append_assoc line (10 ∷ []) others))

-- What was read is some more lines, which fit, and the pieces, joined, are their text.
pub record Taken {A : Type 0} (text : A → List ℕ) (Fits : List A → ℕ → A → Type 0) (before : List A) (k : ℕ) (bytes : List ℕ) (last : List A) : Type 0 where
  pub more : List A
  pub fit : Follows Fits before k more
  pub all : last ≡ before ++ more
  pub spelled : bytes ≡ lines_text text more

-- pieces that are read
pub pieces_take : {A F : Type 0} (step : Steps (List A) F) (unended : ℕ → F) (text : A → List ℕ) (Fits : List A → ℕ → A → Type 0)
    → ((before : List A) (k : ℕ) (bytes : List ℕ) (after : List A) → step before k bytes ≡ Ok after → Adds text Fits before k bytes after)
    → (piece : List ℕ) (pieces : List (List ℕ)) (before : List A) (k : ℕ) (last : List A) → read_from step unended before k (piece ∷ pieces) ≡ Ok last
    → Taken text Fits before k (joined 10 (piece ∷ pieces)) last
unfolding read_from
pieces_take step unended text Fits each piece [] before k last e =
    let h = last_takes (eqb (length piece) 0) before last _ e in
    record { more = []; fit = tt; all = sym h.1 ∙ sym (append-nil before); spelled = empty_is piece h.0 }
pieces_take step unended text Fits each piece (next ∷ pieces) before k last e =
    at_ok k (step before k piece) (λ after. read_from step unended after (k + 1) (next ∷ pieces)) last e λ after here rest.
    let one = each before k piece after here in
    let others = pieces_take step unended text Fits each next pieces after (k + 1) last rest in
    record {
      more = one.item ∷ others.more;
      fit = (one.fits, subst (λ (t : List _). Follows Fits t (k + 1) others.more) one.added others.fit);
      all = others.all ∙ ap (λ (t : _). t ++ others.more) one.added ∙ append_assoc before (one.item ∷ []) others.more;
      spelled = one_more piece (text one.item) (joined 10 (next ∷ pieces)) (lines_text text others.more) one.spelled others.spelled;
    }

-- A text that is read is the text of what was read, and each line fits behind those before it.
pub text_takes : {A F : Type 0} (step : Steps (List A) F) (unended : ℕ → F) (text : A → List ℕ) (Fits : List A → ℕ → A → Type 0)
    → ((before : List A) (k : ℕ) (bytes : List ℕ) (after : List A) → step before k bytes ≡ Ok after → Adds text Fits before k bytes after)
    → (bytes : List ℕ) (items : List A) → read_text step unended [] bytes ≡ Ok items → Follows Fits [] 1 items × (bytes ≡ lines_text text items)
text_takes step unended text Fits each bytes items e =
    let pieces = split_some (λ b. eqb b 10) bytes in
    let taken = pieces_take step unended text Fits each pieces.0 pieces.1 [] 1 items (rw pieces.2 at e) in (
      subst (λ (t : List _). Follows Fits [] 1 t) (sym taken.all) taken.fit,
      sym (joined_split (λ b. eqb b 10) 10 (λ x h. eqb-true x 10 h) bytes) ∙ ap (joined 10) pieces.2 ∙ taken.spelled ∙ ap (lines_text text) (sym taken.all),
    )

-- ---- what is printed is read again

-- the pieces of a text of lines: one for each line, and the empty one behind the last line feed
abbrev pub pieces_of : {A : Type 0} → (A → List ℕ) → List A → List (List ℕ)
pieces_of text [] = [] ∷ []
pieces_of text (item ∷ items) = text item ∷ pieces_of text items

-- there is always a first piece
first_piece : {A : Type 0} (text : A → List ℕ) (items : List A) → (piece : List ℕ) × (pieces : List (List ℕ)) × (pieces_of text items ≡ piece ∷ pieces)
first_piece text [] = ([], [], refl)
first_piece text (item ∷ items) = (text item, pieces_of text items, refl)

-- a line without a fault before others
pub read_line : {S F : Type 0} (step : Steps S F) (unended : ℕ → F) (before after : S) (k : ℕ) (piece next : List ℕ) (pieces : List (List ℕ)) → step before k piece ≡ Ok after
    → read_from step unended before k (piece ∷ next ∷ pieces) ≡ read_from step unended after (k + 1) (next ∷ pieces)
unfolding read_from
read_line step unended before after k piece next pieces e = rw e refl

-- the pieces are read as the lines
pub pieces_again : {A F : Type 0} (step : Steps (List A) F) (unended : ℕ → F) (text : A → List ℕ) (Fits : List A → ℕ → A → Type 0)
    → ((before : List A) (k : ℕ) (item : A) → Fits before k item → step before k (text item) ≡ Ok (before ++ item ∷ []))
    → (before : List A) (k : ℕ) (items : List A) → Follows Fits before k items → read_from step unended before k (pieces_of text items) ≡ Ok (before ++ items)
unfolding read_from
pieces_again step unended text Fits each before k [] h = ap (λ (t : List _). Ok t) (sym (append-nil before))
pieces_again step unended text Fits each before k (item ∷ items) h =
    let f = first_piece text items in
    let others = pieces_again step unended text Fits each (before ++ item ∷ []) (k + 1) items h.1 in
    ap (λ (t : List (List ℕ)). read_from step unended before k (text item ∷ t)) f.2
    ∙ read_line step unended before (before ++ item ∷ []) k (text item) f.0 f.1 (each before k item h.0)
    ∙ ap (read_from step unended (before ++ item ∷ []) (k + 1)) (sym f.2)
    ∙ others
    ∙ ap (λ (t : List _). Ok t) (append_assoc before (item ∷ []) items)

joined_pieces : {A : Type 0} (text : A → List ℕ) (items : List A) → joined 10 (pieces_of text items) ≡ lines_text text items
joined_pieces text [] = refl
joined_pieces text (item ∷ items) =
    let f = first_piece text items in
    ap (λ (t : _). joined 10 (text item ∷ t)) f.2
    ∙ ap (λ (t : List ℕ). text item ++ 10 ∷ t) (ap (joined 10) (sym f.2) ∙ joined_pieces text items)
    ∙ sym (append_assoc (text item) (10 ∷ []) (lines_text text items))

pieces_lack : {A : Type 0} (text : A → List ℕ) (items : List A) → AllByRecursion (λ item. lacks 10 (text item) ≡ true) items
    → AllByRecursion (Lacks (λ b. eqb b 10)) (pieces_of text items)
pieces_lack text [] h = (tt, tt)
pieces_lack text (item ∷ items) h = (lacks_each 10 (text item) h.0, pieces_lack text items h.1)

pieces_first : {A : Type 0} (text : A → List ℕ) (items : List A) → HasFirst (pieces_of text items)
pieces_first text items = first_piece text items

-- the text of lines without a line feed in them is split into its pieces
pub lines_split : {A : Type 0} (text : A → List ℕ) (items : List A) → AllByRecursion (λ item. lacks 10 (text item) ≡ true) items
    → slice_split (λ b. eqb b 10) (lines_text text items) ≡ pieces_of text items
lines_split text items h =
    ap (slice_split (λ b. eqb b 10)) (sym (joined_pieces text items))
    ∙ split_again (λ b. eqb b 10) 10 refl (pieces_of text items) (pieces_first text items) (pieces_lack text items h)

-- The text of lines is read as these lines, where each fits behind those before it and has no line feed in its text.
pub text_again : {A F : Type 0} (step : Steps (List A) F) (unended : ℕ → F) (text : A → List ℕ) (Fits : List A → ℕ → A → Type 0)
    → ((before : List A) (k : ℕ) (item : A) → Fits before k item → step before k (text item) ≡ Ok (before ++ item ∷ []))
    → ((before : List A) (k : ℕ) (item : A) → Fits before k item → lacks 10 (text item) ≡ true)
    → (items : List A) → Follows Fits [] 1 items → read_text step unended [] (lines_text text items) ≡ Ok items
text_again step unended text Fits each free items h =
    ap (read_from step unended [] 1) (lines_split text items (follows_each Fits (λ item. lacks 10 (text item) ≡ true) free [] 1 items h))
    ∙ pieces_again step unended text Fits each [] 1 items h
