-- The walk of clap over the words behind a command: which words it refuses, and what it finds.
use Rattle.std.proofs.Common.{◌≡◌, ◌||◌, arith, ℕ, Bool, true, false, true≢false, List, [], ◌∷◌, ◌++◌, Option, Some, None, refl, codes, eqb, ap, sym, subst, ◌∙◌, inl, inr, map, length, fold, slice_get, option_map, IsUtf8, encode_utf8_all, String, string_bytes}
use Rattle.std.specs.Prelude.{unwrap_or, if◌then◌else◌, not, take}
use Rattle.std.specs.List.{after_first, prefix_len}
use Rattle.std.specs.Char.{encode_utf8}
use Rattle.std.specs.Str.{bytes_eq, chars}
use Rattle.std.proofs.lemmas.Str.{encodes-chars, IsUtf8-had}
use Rattle.std.proofs.lemmas.List.{append-nil, append_assoc}
use Rattle.std.proofs.lemmas.Bool.Decides.{eqb_tells}
use Rattle.std.proofs.Math.Seq.{take-length}
use Rattle.std.proofs.lemmas.Slice.Eq.{bytes_eq-Decides}
use Rattle.clap.specs.Lexer.{has_byte, name_and_value}
use Rattle.clap.specs.Faults.{bundle_step_fault, check_fault, flags_fault, long_fault, step_fault, turn_fault, word_fault, settle_fault, defaults_fault, walk_fault, level_fault, fault_of}
use Rattle.clap.specs.Kinds.{Kinds, IsAmong, or_else}
use Rattle.clap.specs.Matches.{matched_of, one_text, raw_values}
use Rattle.clap.specs.Values.{bool_text}
use Rattle.clap.specs.Walk.{Held, Rule, Row, Text, Walk, idle, positional, walk, walked, walk_from, word_met, nothing_held, rows_after, rows_of, all_of, arg_by_long, one_of, with_values, settled, finished, with_default}
use Rattle.clap.specs.Simple.{Shape, built, matches_of}
use Rattle.clap.specs.declared.builder.value_parser.Reading.TheVariants.{AsWritten}
use Rattle.clap.specs.declared.parser.matches.Found.{Found}
use Rattle.clap.specs.declared.parser.matches.ValueSource.TheVariants.{CommandLine}
use Rattle.clap.specs.declared.error.kind.ErrorKind.{ErrorKind}
use Rattle.clap.proofs.OnLiterals.{clap_on_literals}
use Rattle.clap.proofs.FaultLemmas.{leaf_fault}
use Rattle.clap.proofs.WalkLemmas.{one_text-rows, raw_values-rows}
use Rattle.ov_base.specs.Word.{◌>>=◌}
use Rattle.ov_top.specs.Parsing.{words_app}
use Rattle.ov_top.specs.Words.{Said, nothing_said, said_from, with_file, with_journal}

-- the command that takes files, and `--journal` where it is allowed, as clap builds it
abbrev shape : Bool → Shape
shape allowed = (built (words_app allowed)).top

-- its arguments
abbrev rules : Bool → List Rule
rules allowed = (shape allowed).rules

-- `--journal`
abbrev flag : Text
flag = codes "--journal"

-- What was said so far, by the order in which it was: files and no `--journal`; `--journal` and then files; or a file, and `--journal` behind it or a
-- further one.
data Place : Type 0 where
  unsaid : List Text → Place
  said_first : List Text → Place
  said_behind : Text → List Text → Place

-- what is found of the files
abbrev files_rows : List Text → List Row
files_rows [] = []
files_rows (file ∷ files) = record { id = codes "files"; values = file ∷ files; count = None; source = Some CommandLine; reading = AsWritten } ∷ []

-- what is found of `--journal`
abbrev flag_row : Row
flag_row = record { id = codes "journal"; values = codes "true" ∷ []; count = None; source = Some CommandLine; reading = AsWritten }

-- what is found at a place
abbrev rows_at : Place → List Row
rows_at (unsaid files) = files_rows files
rows_at (said_first files) = flag_row ∷ files_rows files
rows_at (said_behind file files) = files_rows (file ∷ files) ++ flag_row ∷ []

-- what was said at a place
abbrev said_at : Place → Said
said_at (unsaid files) = record { journal = false; files = files }
said_at (said_first files) = record { journal = true; files = files }
said_at (said_behind file files) = record { journal = true; files = file ∷ files }

-- whether `--journal` may stand behind a place
abbrev may : Bool → Place → Bool
may allowed (unsaid files) = allowed
may allowed (said_first files) = false
may allowed (said_behind file files) = false

-- the place behind one file more
abbrev more : Place → Text → Place
more (unsaid files) word = unsaid (files ++ word ∷ [])
more (said_first files) word = said_first (files ++ word ∷ [])
more (said_behind file files) word = said_behind file (files ++ word ∷ [])

-- the place with the file that waits
abbrev all_at : Place → Option Text → Place
all_at place None = place
all_at place (Some file) = more place file

-- the place behind `--journal`, where it was not said
abbrev flagged : List Text → Place
flagged [] = said_first []
flagged (file ∷ files) = said_behind file files

-- what is found with the file that waits
abbrev rows_with : List Row → Option Text → List Row
rows_with rows None = rows
rows_with rows (Some file) = with_values (codes "files") AsWritten CommandLine (file ∷ []) rows

-- the walk with these rows, and perhaps a file that waits
abbrev at : Bool → List Row → Option Text → Walk
at trailing rows None = record { held = record { rows = rows; pending = None; skip = 0 }; waiting = idle; position = 1; is_trailing = trailing; stopped = None }
at trailing rows (Some file) = record { held = record { rows = rows; pending = Some (codes "files", file ∷ []); skip = 0 }; waiting = positional; position = 1; is_trailing = trailing; stopped = None }

-- the file that waits is found behind the others
rows_all : (place : Place) (p : Option Text) → rows_with (rows_at place) p ≡ rows_at (all_at place p)
unfolding clap_on_literals
rows_all place None = refl
rows_all (unsaid []) (Some file) = refl
rows_all (unsaid (x ∷ xs)) (Some file) = refl
rows_all (said_first []) (Some file) = refl
rows_all (said_first (x ∷ xs)) (Some file) = refl
rows_all (said_behind x xs) (Some file) = refl

-- a word brings the walk on to here, with no fault
record Brings (allowed : Bool) (w : Walk) (word : Text) (after : Walk) : Type 0 where
  goes : walked (rules allowed) [] w word ≡ after
  free : turn_fault (shape allowed) [] w word ≡ []

-- behind `--` each word names a file
takes_behind : (allowed : Bool) (rows : List Row) (p : Option Text) (word : Text) → Brings allowed (at true rows p) word (at true (rows_with rows p) (Some word))
unfolding clap_on_literals
takes_behind false rows None word = record { goes = refl; free = refl }
takes_behind false rows (Some file) word = record { goes = refl; free = refl }
takes_behind true rows None word = record { goes = refl; free = refl }
takes_behind true rows (Some file) word = record { goes = refl; free = refl }

-- `--` is dropped
drops_dashes : (allowed : Bool) (rows : List Row) (p : Option Text) → Brings allowed (at false rows p) (45 ∷ 45 ∷ []) (at true rows p)
unfolding clap_on_literals
drops_dashes false rows None = record { goes = refl; free = refl }
drops_dashes false rows (Some file) = record { goes = refl; free = refl }
drops_dashes true rows None = record { goes = refl; free = refl }
drops_dashes true rows (Some file) = record { goes = refl; free = refl }

-- the empty word names a file
takes_empty : (allowed : Bool) (rows : List Row) (p : Option Text) → Brings allowed (at false rows p) [] (at false (rows_with rows p) (Some []))
unfolding clap_on_literals
takes_empty false rows None = record { goes = refl; free = refl }
takes_empty false rows (Some file) = record { goes = refl; free = refl }
takes_empty true rows None = record { goes = refl; free = refl }
takes_empty true rows (Some file) = record { goes = refl; free = refl }

-- `-` names a file
takes_dash : (allowed : Bool) (rows : List Row) (p : Option Text) → Brings allowed (at false rows p) (45 ∷ []) (at false (rows_with rows p) (Some (45 ∷ [])))
unfolding clap_on_literals
takes_dash false rows None = record { goes = refl; free = refl }
takes_dash false rows (Some file) = record { goes = refl; free = refl }
takes_dash true rows None = record { goes = refl; free = refl }
takes_dash true rows (Some file) = record { goes = refl; free = refl }

-- a word that does not begin with `-` names a file
takes_plain : (allowed : Bool) (rows : List Row) (p : Option Text) (b : ℕ) (bs : Text) → eqb b 45 ≡ false
    → Brings allowed (at false rows p) (b ∷ bs) (at false (rows_with rows p) (Some (b ∷ bs)))
unfolding clap_on_literals
takes_plain false rows None b bs h = record { goes = simp h; free = simp h }
takes_plain false rows (Some file) b bs h = record { goes = simp h; free = simp h }
takes_plain true rows None b bs h = record { goes = simp h; free = simp h }
takes_plain true rows (Some file) b bs h = record { goes = simp h; free = simp h }

-- `--journal` is found where it is allowed and was not said
takes_flag : (files : List Text) (p : Option Text) → Brings true (at false (files_rows files) p) flag (at false (rows_at (flagged (said_at (all_at (unsaid files) p)).files)) None)
unfolding clap_on_literals
takes_flag [] None = record { goes = refl; free = refl }
takes_flag (x ∷ xs) None = record { goes = refl; free = refl }
takes_flag [] (Some file) = record { goes = refl; free = refl }
takes_flag (x ∷ xs) (Some file) = record { goes = refl; free = refl }

-- where a list of kinds has one, it is not empty
a_kind : (k : ErrorKind) (ks : Kinds) → k ∷ ks ≡ [] → ⊥
a_kind k ks h = cc

-- where neither of two steps has a fault, the first has none
first_empty : (a b : Kinds) → or_else a b ≡ [] → a ≡ []
first_empty [] b h = refl
first_empty (k ∷ ks) b h = h

-- `--journal` is refused where it is not allowed, and where it was said
refuses_flag : (allowed : Bool) (place : Place) (p : Option Text) → may allowed place ≡ false → turn_fault (shape allowed) [] (at false (rows_at place) p) flag ≡ [] → ⊥
unfolding clap_on_literals
refuses_flag false place None said h = cc
refuses_flag false place (Some file) said h = cc
refuses_flag true (unsaid files) p said h = cc
refuses_flag true (said_first files) None said h = cc
refuses_flag true (said_first files) (Some file) said h = cc
refuses_flag true (said_behind x xs) None said h = cc
refuses_flag true (said_behind x xs) (Some file) said h = cc

-- where no `=` stands in a text, all of it is the name
whole_len : (text : Text) → has_byte 61 text ≡ false → prefix_len (λ x. not (eqb x 61)) text ≡ length text
whole_len [] h = refl
whole_len (x ∷ xs) h = elim (eqb_tells x 61) [
  | inl same ↦ absurd (true≢false (sym (ap (λ t. t || has_byte 61 xs) same.0) ∙ h))
  | inr other ↦ let rest : prefix_len (λ y. not (eqb y 61)) xs ≡ length xs = whole_len xs (sym (ap (λ t. t || has_byte 61 xs) other.0) ∙ h) in rw other.0 (omega (arith, rest))
]

-- a long word with no value has all that stands behind its hyphens as its name
whole_name : (text : Text) → (name_and_value text).1 ≡ None → (name_and_value text).0 ≡ text
whole_name text none = go (has_byte 61 text) refl none
  where
    go : (t : Bool) → has_byte 61 text ≡ t → (if t then Some (after_first (λ x. eqb x 61) text) else None) ≡ None → (name_and_value text).0 ≡ text
    go true e none = absurd (cc none)
    go false e none = ap (λ n. take n text) (whole_len text e) ∙ take-length text

-- clap knows no other long name than `journal`, which takes no value
refuses_name : (allowed : Bool) (name : Text) (value : Option Text) (held : Held) → (name ≡ codes "journal" → value ≡ None → ⊥)
    → long_fault (rules allowed) (shape allowed).args_override_self (arg_by_long (rules allowed) name) value held ≡ [] → ⊥
refuses_name false name value held other h = cc
refuses_name true name value held other h = go (bytes_eq (codes "journal") name) refl value other h
  where
    go : (t : Bool) → bytes_eq (codes "journal") name ≡ t → (value : Option Text) → (name ≡ codes "journal" → value ≡ None → ⊥)
        → long_fault (rules true) false (arg_by_long (rules true) name) value held ≡ [] → ⊥
    go true e None other h = other (sym ((bytes_eq-Decides (codes "journal") name).0 e)) refl
    go true e (Some v) other h = let bad = simp e at h in cc
    go false e value other h = let bad = simp e at h in cc

-- where a turn has no fault, its word has none
word_first : (allowed : Bool) (rows : List Row) (p : Option Text) (word : Text) → turn_fault (shape allowed) [] (at false rows p) word ≡ []
    → word_fault (shape allowed) [] false (at false rows p).waiting word (at false rows p).held ≡ []
word_first allowed rows None word h =
    let w = at false rows None in
    let met = word_met (rules allowed) [] false w.waiting 1 word w.held in
    first_empty (word_fault (shape allowed) [] false w.waiting word w.held) (step_fault (shape allowed) 1 met.0 met.1) h
word_first allowed rows (Some file) word h =
    let w = at false rows (Some file) in
    let met = word_met (rules allowed) [] false w.waiting 1 word w.held in
    first_empty (word_fault (shape allowed) [] false w.waiting word w.held) (step_fault (shape allowed) 1 met.0 met.1) h

-- where a turn has no fault at a long word, its name and value have none
long_word_fault : (allowed : Bool) (rows : List Row) (p : Option Text) (b : ℕ) (bs : Text) → turn_fault (shape allowed) [] (at false rows p) (45 ∷ 45 ∷ b ∷ bs) ≡ []
    → long_fault (rules allowed) (shape allowed).args_override_self (arg_by_long (rules allowed) (name_and_value (b ∷ bs)).0) (name_and_value (b ∷ bs)).1 (at false rows p).held ≡ []
long_word_fault allowed rows None b bs h = word_first allowed rows None (45 ∷ 45 ∷ b ∷ bs) h
long_word_fault allowed rows (Some file) b bs h = word_first allowed rows (Some file) (45 ∷ 45 ∷ b ∷ bs) h

-- another word that begins with `--` is refused
refuses_long : (allowed : Bool) (rows : List Row) (p : Option Text) (b : ℕ) (bs : Text) → (45 ∷ 45 ∷ b ∷ bs ≡ flag → ⊥) → turn_fault (shape allowed) [] (at false rows p) (45 ∷ 45 ∷ b ∷ bs) ≡ [] → ⊥
refuses_long allowed rows p b bs other h =
    refuses_name allowed (name_and_value (b ∷ bs)).0 (name_and_value (b ∷ bs)).1 (at false rows p).held
    (λ named none. other (ap (λ text. 45 ∷ 45 ∷ text) (sym (whole_name (b ∷ bs) none) ∙ named)))
    (long_word_fault allowed rows p b bs h)

-- the characters of a text behind a hyphen
chars_behind : (rest : Text) → chars (45 ∷ rest) ≡ 45 ∷ chars rest
unfolding chars
chars_behind [] = refl
chars_behind (b ∷ bs) = refl

-- a hyphen is one byte
hyphen_alone : encode_utf8_all (45 ∷ []) ≡ 45 ∷ []
unfolding encode_utf8
hyphen_alone = refl

-- a text that goes on behind a hyphen has a character there
char_behind : (b : ℕ) (bs : Text) → IsUtf8 (45 ∷ b ∷ bs) → (c : ℕ) × (slice_get (chars (b ∷ bs)) 0 ≡ Some c)
char_behind b bs text = go (chars (b ∷ bs)) refl
  where
    go : (cs : List ℕ) → chars (b ∷ bs) ≡ cs → (c : ℕ) × (slice_get (chars (b ∷ bs)) 0 ≡ Some c)
    go [] none =
        let bad : 45 ∷ b ∷ bs ≡ 45 ∷ [] = sym (encodes-chars (45 ∷ b ∷ bs) text) ∙ ap encode_utf8_all (chars_behind (b ∷ bs) ∙ ap (λ cs. 45 ∷ cs) none) ∙ hyphen_alone in
        absurd (cc bad)
    go (c ∷ cs) is = (c, ap (λ l. slice_get l 0) is)

-- clap knows no short option
refuses_char : (allowed : Bool) (flags : Text) (held : Held) (o : Option ℕ) (c : ℕ) (next : Text → ℕ → Held → Kinds) → o ≡ Some c
    → bundle_step_fault (rules allowed) (shape allowed).args_override_self o flags 0 held next ≡ [] → ⊥
unfolding clap_on_literals
refuses_char false flags held o c next is h = a_kind _ _ (ap (λ x. bundle_step_fault (rules false) false x flags 0 held next) (sym is) ∙ h)
refuses_char true flags held o c next is h = a_kind _ _ (ap (λ x. bundle_step_fault (rules true) false x flags 0 held next) (sym is) ∙ h)

-- where a turn has no fault at a short word, its characters have none
short_word_fault : (allowed : Bool) (rows : List Row) (p : Option Text) (b : ℕ) (bs : Text) → eqb b 45 ≡ false → turn_fault (shape allowed) [] (at false rows p) (45 ∷ b ∷ bs) ≡ []
    → bundle_step_fault (rules allowed) (shape allowed).args_override_self (slice_get (chars (b ∷ bs)) 0) (b ∷ bs) 0 (at false rows p).held
    (flags_fault (rules allowed) (shape allowed).args_override_self (length bs)) ≡ []
unfolding flags_fault
short_word_fault allowed rows None b bs other h = simp other at (word_first allowed rows None (45 ∷ b ∷ bs) h)
short_word_fault allowed rows (Some file) b bs other h = simp other at (word_first allowed rows (Some file) (45 ∷ b ∷ bs) h)

-- a word that begins with one `-` and goes on is refused
refuses_short : (allowed : Bool) (rows : List Row) (p : Option Text) (b : ℕ) (bs : Text) → IsUtf8 (45 ∷ b ∷ bs) → eqb b 45 ≡ false → turn_fault (shape allowed) [] (at false rows p) (45 ∷ b ∷ bs) ≡ [] → ⊥
refuses_short allowed rows p b bs text other h =
    let first = char_behind b bs text in
    refuses_char allowed (b ∷ bs) (at false rows p).held _ first.0 (flags_fault (rules allowed) (shape allowed).args_override_self (length bs)) first.1 (short_word_fault allowed rows p b bs other h)

-- the rows show whether `--journal` was said, where it is allowed
abbrev TellsFlag : Bool → List Row → Bool → Type 0
TellsFlag true rows journal = one_of (codes "journal") rows ≡ Some (bool_text journal)
TellsFlag false rows journal = Unit {0}

-- the rows show what was said
record Shows (allowed : Bool) (rows : List Row) (said : Said) : Type 0 where
  files : unwrap_or (all_of (codes "files") rows) [] ≡ said.files
  journal : TellsFlag allowed rows said.journal

-- what is found at a place, with the defaults, shows what was said there
shows_at : (allowed : Bool) (place : Place) → Shows allowed (fold with_default (rows_at place) (rules allowed)) (said_at place)
shows_at false (unsaid []) = record { files = refl; journal = tt }
shows_at false (unsaid (x ∷ xs)) = record { files = refl; journal = tt }
shows_at false (said_first []) = record { files = refl; journal = tt }
shows_at false (said_first (x ∷ xs)) = record { files = refl; journal = tt }
shows_at false (said_behind x xs) = record { files = refl; journal = tt }
shows_at true (unsaid []) = record { files = refl; journal = refl }
shows_at true (unsaid (x ∷ xs)) = record { files = refl; journal = refl }
shows_at true (said_first []) = record { files = refl; journal = refl }
shows_at true (said_first (x ∷ xs)) = record { files = refl; journal = refl }
shows_at true (said_behind x xs) = record { files = refl; journal = refl }

-- the defaults pass
defaults_at : (allowed : Bool) (place : Place) → defaults_fault (rows_at place) (rules allowed) ≡ []
unfolding clap_on_literals
defaults_at false (unsaid []) = refl
defaults_at false (unsaid (x ∷ xs)) = refl
defaults_at false (said_first []) = refl
defaults_at false (said_first (x ∷ xs)) = refl
defaults_at false (said_behind x xs) = refl
defaults_at true (unsaid []) = refl
defaults_at true (unsaid (x ∷ xs)) = refl
defaults_at true (said_first []) = refl
defaults_at true (said_first (x ∷ xs)) = refl
defaults_at true (said_behind x xs) = refl

-- where the walk stands behind the last word
record Ends (allowed : Bool) (w : Walk) (said : Said) : Type 0 where
  runs : w.stopped ≡ None
  settles : settle_fault (rules allowed) (shape allowed).args_override_self w.held ≡ []
  defaults : defaults_fault (settled (rules allowed) w.held).rows (rules allowed) ≡ []
  shows : Shows allowed (finished (rules allowed) w.held) said

-- the file that waits settles with no fault
settles_at : (allowed trailing : Bool) (rows : List Row) (p : Option Text)
    → ((at trailing rows p).stopped ≡ None) × (settle_fault (rules allowed) (shape allowed).args_override_self (at trailing rows p).held ≡ []) × ((settled (rules allowed) (at trailing rows p).held).rows ≡ rows_with rows p)
settles_at false trailing rows None = (refl, refl, refl)
settles_at false trailing rows (Some file) = (refl, refl, refl)
settles_at true trailing rows None = (refl, refl, refl)
settles_at true trailing rows (Some file) = (refl, refl, refl)

-- behind the last word the walk ends with no fault, and shows what was said
ends_at : (allowed trailing : Bool) (place : Place) (p : Option Text) → Ends allowed (at trailing (rows_at place) p) (said_at (all_at place p))
ends_at allowed trailing place p =
    let last = settles_at allowed trailing (rows_at place) p in
    let here : (settled (rules allowed) (at trailing (rows_at place) p).held).rows ≡ rows_at (all_at place p) = last.2 ∙ rows_all place p in
    record {
      runs = last.0;
      settles = last.1;
      defaults = ap (λ rows. defaults_fault rows (rules allowed)) here ∙ defaults_at allowed (all_at place p);
      shows = subst (λ rows. Shows allowed (fold with_default rows (rules allowed)) (said_at (all_at place p))) (sym here) (shows_at allowed (all_at place p));
    }

-- what was said, and what is said behind it
abbrev both : Said → Said → Said
both before said = record { journal = before.journal || said.journal; files = before.files ++ said.files }

-- what was said, by its two parts
abbrev said_by : Bool → List Text → Said
said_by journal files = record { journal = journal; files = files }

-- nothing more is said
both_nothing : (place : Place) → both (said_at place) nothing_said ≡ said_at place
both_nothing (unsaid files) = ap (said_by false) (append-nil files)
both_nothing (said_first files) = ap (said_by true) (append-nil files)
both_nothing (said_behind file files) = ap (said_by true) (append-nil (file ∷ files))

-- a file is said before what is said behind it
both_file : (place : Place) (word : Text) (said : Said) → both (said_at (more place word)) said ≡ both (said_at place) (with_file word said)
both_file (unsaid files) word said = ap (said_by said.journal) (append_assoc files (word ∷ []) said.files)
both_file (said_first files) word said = ap (said_by true) (append_assoc files (word ∷ []) said.files)
both_file (said_behind file files) word said = ap (said_by true) (append_assoc (file ∷ files) (word ∷ []) said.files)

-- `--journal` is said before what is said behind it
both_flag : (files : List Text) (said : Said) → both (said_at (flagged files)) said ≡ both (said_at (unsaid files)) (with_journal said)
both_flag [] said = refl
both_flag (file ∷ files) said = refl

-- a file more leaves it as it was whether `--journal` may stand
may_all : (allowed : Bool) (place : Place) (p : Option Text) → may allowed (all_at place p) ≡ may allowed place
may_all allowed place None = refl
may_all allowed (unsaid files) (Some file) = refl
may_all allowed (said_first files) (Some file) = refl
may_all allowed (said_behind x xs) (Some file) = refl

-- behind `--journal` it may not stand again
may_flagged : (files : List Text) → may true (flagged files) ≡ false
may_flagged [] = refl
may_flagged (file ∷ files) = refl

-- what the words come to where this was said before them: they are refused, or the walk ends with what they say behind it
abbrev Comes : Bool → Walk → Said → List Text → Option Said → Type 0
Comes allowed w before words None = walk_fault (shape allowed) [] w words ≡ [] → ⊥
Comes allowed w before words (Some said) = (walk_fault (shape allowed) [] w words ≡ []) × Ends allowed (fold (walked (rules allowed) []) w words) (both before said)

-- no words are left
comes_at : (allowed trailing : Bool) (place : Place) (p : Option Text) → Comes allowed (at trailing (rows_at place) p) (said_at (all_at place p)) [] (Some nothing_said)
unfolding walk_fault
comes_at allowed trailing place p =
    (refl, subst (Ends allowed (at trailing (rows_at place) p)) (sym (both_nothing (all_at place p))) (ends_at allowed trailing place p))

-- behind a word with no fault, the faults are those of the other words
past_word : (allowed : Bool) (w after : Walk) (word : Text) (words : List Text) → Brings allowed w word after → walk_fault (shape allowed) [] w (word ∷ words) ≡ walk_fault (shape allowed) [] after words
unfolding walk_fault
past_word allowed w after word words t =
    ap (λ kinds. or_else kinds (walk_fault (shape allowed) [] (walked (rules allowed) [] w word) words)) t.free ∙ ap (λ v. walk_fault (shape allowed) [] v words) t.goes

-- a word that says nothing
comes_dropped : (allowed : Bool) (w after : Walk) (word : Text) (words : List Text) (before : Said) (o : Option Said) → Brings allowed w word after
    → Comes allowed after before words o → Comes allowed w before (word ∷ words) o
comes_dropped allowed w after word words before None t h = λ e. h (sym (past_word allowed w after word words t) ∙ e)
comes_dropped allowed w after word words before (Some said) t h =
    (past_word allowed w after word words t ∙ h.0, subst (λ v. Ends allowed (fold (walked (rules allowed) []) v words) (both before said)) (sym t.goes) h.1)

-- a word that says something
comes_said : (allowed : Bool) (w after : Walk) (word : Text) (words : List Text) (before now : Said) (add : Said → Said) (o : Option Said) → Brings allowed w word after
    → ((said : Said) → both now said ≡ both before (add said)) → Comes allowed after now words o → Comes allowed w before (word ∷ words) (o >>= λ said. Some (add said))
comes_said allowed w after word words before now add None t same h = comes_dropped allowed w after word words before None t h
comes_said allowed w after word words before now add (Some said) t same h =
    comes_dropped allowed w after word words before (Some (add said)) t (h.0, subst (Ends allowed (fold (walked (rules allowed) []) after words)) (same said) h.1)

-- a word that names a file
comes_file : (allowed trailing : Bool) (place : Place) (p : Option Text) (word : Text) (words : List Text) (o : Option Said)
    → Brings allowed (at trailing (rows_at place) p) word (at trailing (rows_with (rows_at place) p) (Some word))
    → Comes allowed (at trailing (rows_at (all_at place p)) (Some word)) (said_at (more (all_at place p) word)) words o
    → Comes allowed (at trailing (rows_at place) p) (said_at (all_at place p)) (word ∷ words) (o >>= λ said. Some (with_file word said))
comes_file allowed trailing place p word words o t h =
    comes_said allowed (at trailing (rows_at place) p) (at trailing (rows_at (all_at place p)) (Some word)) word words (said_at (all_at place p)) (said_at (more (all_at place p) word)) (with_file word) o
    (subst (λ rows. Brings allowed (at trailing (rows_at place) p) word (at trailing rows (Some word))) (rows_all place p) t)
    (both_file (all_at place p) word) h

-- a word that is refused
comes_refused : (allowed : Bool) (w : Walk) (word : Text) (words : List Text) (before : Said) → (turn_fault (shape allowed) [] w word ≡ [] → ⊥) → Comes allowed w before (word ∷ words) None
unfolding walk_fault
comes_refused allowed w word words before refused = λ e. refused (first_empty (turn_fault (shape allowed) [] w word) _ e)

-- the words behind `--`
comes_behind : (allowed free : Bool) (words : List Text) (place : Place) (p : Option Text) → Comes allowed (at true (rows_at place) p) (said_at (all_at place p)) words (said_from free true words)
unfolding said_from
comes_behind allowed free [] place p = comes_at allowed true place p
comes_behind allowed free (word ∷ words) place p =
    comes_file allowed true place p word words (said_from free true words) (takes_behind allowed (rows_at place) p word) (comes_behind allowed free words (all_at place p) (Some word))

-- a word that does not begin with `-` is read as a file
read_plain : (free : Bool) (b : ℕ) (bs : Text) (words : List Text) → eqb b 45 ≡ false
    → said_from free false ((b ∷ bs) ∷ words) ≡ (said_from free false words >>= λ said. Some (with_file (b ∷ bs) said))
unfolding said_from
read_plain free b [] words h = simp h
read_plain free b (c ∷ bs) words h = simp h

-- a word that begins with one `-` and goes on is read as refused
read_short : (free : Bool) (b : ℕ) (bs : Text) (words : List Text) → eqb b 45 ≡ false → said_from free false ((45 ∷ b ∷ bs) ∷ words) ≡ None
unfolding said_from
read_short free b bs words h = simp h

-- a word that begins with `--` and goes on is read as refused, but for `--journal`
read_long : (free : Bool) (b : ℕ) (bs : Text) (words : List Text) → bytes_eq (45 ∷ 45 ∷ b ∷ bs) flag ≡ false → said_from free false ((45 ∷ 45 ∷ b ∷ bs) ∷ words) ≡ None
unfolding said_from
read_long free b bs words h = simp h

-- the words come to what is read of them, wherever the walk stands
abbrev Reads : Bool → List Text → Type 0
Reads allowed words = (place : Place) (p : Option Text) → Comes allowed (at false (rows_at place) p) (said_at (all_at place p)) words (said_from (may allowed place) false words)

-- the same of words with one more in front, at a place
abbrev Turns : Bool → List Text → Place → Option Text → Text → Type 0
Turns allowed words place p word = Comes allowed (at false (rows_at place) p) (said_at (all_at place p)) (word ∷ words) (said_from (may allowed place) false (word ∷ words))

-- `--journal`, taken behind these files
comes_flag : (words : List Text) → Reads true words → (files : List Text) (w : Walk) → Brings true w flag (at false (rows_at (flagged files)) None)
    → Comes true w (said_at (unsaid files)) (flag ∷ words) (said_from false false words >>= λ said. Some (with_journal said))
comes_flag words rest files w t =
    comes_said true w (at false (rows_at (flagged files)) None) flag words (said_at (unsaid files)) (said_at (flagged files)) with_journal (said_from false false words) t (both_flag files)
    (subst (λ free. Comes true (at false (rows_at (flagged files)) None) (said_at (flagged files)) words (said_from free false words)) (may_flagged files) (rest (flagged files) None))

-- `--journal` wherever the walk stands
turns_flag : (allowed : Bool) (words : List Text) → Reads allowed words → (place : Place) (p : Option Text) → Turns allowed words place p flag
unfolding said_from
turns_flag false words rest (unsaid files) p = comes_refused false _ flag words (said_at (all_at (unsaid files) p)) (refuses_flag false (unsaid files) p refl)
turns_flag true words rest (unsaid files) None = comes_flag words rest files (at false (files_rows files) None) (takes_flag files None)
turns_flag true words rest (unsaid files) (Some file) = comes_flag words rest (files ++ file ∷ []) (at false (files_rows files) (Some file)) (takes_flag files (Some file))
turns_flag allowed words rest (said_first files) p = comes_refused allowed _ flag words (said_at (all_at (said_first files) p)) (refuses_flag allowed (said_first files) p refl)
turns_flag allowed words rest (said_behind x xs) p = comes_refused allowed _ flag words (said_at (all_at (said_behind x xs) p)) (refuses_flag allowed (said_behind x xs) p refl)

-- one word more, where the words behind it come to what is read of them
module _ (allowed : Bool) (words : List Text) (rest : Reads allowed words) (place : Place) (p : Option Text) where
  -- the words behind a file that now waits
  goes_on : (word : Text) → Comes allowed (at false (rows_at (all_at place p)) (Some word)) (said_at (more (all_at place p) word)) words (said_from (may allowed place) false words)
  goes_on word = subst (λ free. Comes allowed (at false (rows_at (all_at place p)) (Some word)) (said_at (more (all_at place p) word)) words (said_from free false words)) (may_all allowed place p) (rest (all_at place p) (Some word))

  -- the empty word
  turns_empty : Turns allowed words place p []
  unfolding said_from
  turns_empty = comes_file allowed false place p [] words (said_from (may allowed place) false words) (takes_empty allowed (rows_at place) p) (goes_on [])

  -- `-`
  turns_dash : Turns allowed words place p (45 ∷ [])
  unfolding said_from
  turns_dash = comes_file allowed false place p (45 ∷ []) words (said_from (may allowed place) false words) (takes_dash allowed (rows_at place) p) (goes_on (45 ∷ []))

  -- `--`
  turns_dashes : Turns allowed words place p (45 ∷ 45 ∷ [])
  unfolding said_from
  turns_dashes =
      comes_dropped allowed _ (at true (rows_at place) p) (45 ∷ 45 ∷ []) words (said_at (all_at place p)) (said_from (may allowed place) true words) (drops_dashes allowed (rows_at place) p)
      (comes_behind allowed (may allowed place) words place p)

  -- a word that is refused, as it is read
  refused : (word : Text) → said_from (may allowed place) false (word ∷ words) ≡ None → (turn_fault (shape allowed) [] (at false (rows_at place) p) word ≡ [] → ⊥) → Turns allowed words place p word
  refused word none h =
      subst (Comes allowed (at false (rows_at place) p) (said_at (all_at place p)) (word ∷ words)) (sym none)
      (comes_refused allowed (at false (rows_at place) p) word words (said_at (all_at place p)) h)

  -- a word that begins with `--` and goes on
  turns_long : (b : ℕ) (bs : Text) → Turns allowed words place p (45 ∷ 45 ∷ b ∷ bs)
  turns_long b bs = go (bytes_eq (45 ∷ 45 ∷ b ∷ bs) flag) refl
    where
      go : (t : Bool) → bytes_eq (45 ∷ 45 ∷ b ∷ bs) flag ≡ t → Turns allowed words place p (45 ∷ 45 ∷ b ∷ bs)
      go true e = subst (Turns allowed words place p) (sym ((bytes_eq-Decides (45 ∷ 45 ∷ b ∷ bs) flag).0 e)) (turns_flag allowed words rest place p)
      go false e =
          refused (45 ∷ 45 ∷ b ∷ bs) (read_long (may allowed place) b bs words e)
          (refuses_long allowed (rows_at place) p b bs (λ same. true≢false (sym ((bytes_eq-Decides (45 ∷ 45 ∷ b ∷ bs) flag).1 same) ∙ e)))

  -- a word that does not begin with `-`
  turns_plain : (b : ℕ) (bs : Text) → eqb b 45 ≡ false → Turns allowed words place p (b ∷ bs)
  turns_plain b bs h =
      subst (Comes allowed (at false (rows_at place) p) (said_at (all_at place p)) ((b ∷ bs) ∷ words)) (sym (read_plain (may allowed place) b bs words h))
      (comes_file allowed false place p (b ∷ bs) words (said_from (may allowed place) false words) (takes_plain allowed (rows_at place) p b bs h) (goes_on (b ∷ bs)))

  -- a word that begins with `-` and goes on
  turns_option : (b : ℕ) (bs : Text) → IsUtf8 (45 ∷ b ∷ bs) → Turns allowed words place p (45 ∷ b ∷ bs)
  turns_option b bs text = elim (eqb_tells b 45) [
    | inl same ↦ subst (λ x. Turns allowed words place p (45 ∷ x ∷ bs)) (sym same.1) (go bs)
    | inr other ↦ refused (45 ∷ b ∷ bs) (read_short (may allowed place) b bs words other.0) (refuses_short allowed (rows_at place) p b bs text other.0)
  ]
    where
      go : (bs : Text) → Turns allowed words place p (45 ∷ 45 ∷ bs)
      go [] = turns_dashes
      go (c ∷ cs) = turns_long c cs

  -- a word that begins with `-`
  turns_hyphen : (bs : Text) → IsUtf8 (45 ∷ bs) → Turns allowed words place p (45 ∷ bs)
  turns_hyphen [] text = turns_dash
  turns_hyphen (b ∷ bs) text = turns_option b bs text

  -- any word
  turns : (word : Text) → IsUtf8 word → Turns allowed words place p word
  turns [] text = turns_empty
  turns (b ∷ bs) text = elim (eqb_tells b 45) [
    | inl same ↦ subst (λ x. Turns allowed words place p (x ∷ bs)) (sym same.1) (turns_hyphen bs (subst (λ x. IsUtf8 (x ∷ bs)) same.1 text))
    | inr other ↦ turns_plain b bs other.0
  ]

-- all words come to what is read of them
comes_before : {Z : Type 0} (allowed : Bool) (words : List (String Z)) → Reads allowed (map string_bytes words)
unfolding said_from
comes_before allowed [] place p = comes_at allowed false place p
comes_before allowed (word ∷ words) place p = turns allowed (map string_bytes words) (comes_before allowed words) place p (string_bytes word) (IsUtf8-had (string_bytes word) word.ok)

-- the words are refused, or the rows show what they say
abbrev Exactly : Bool → Kinds → List Row → Option Said → Type 0
Exactly allowed kinds rows None = kinds ≡ [] → ⊥
Exactly allowed kinds rows (Some said) = (kinds ≡ []) × Shows allowed rows said

-- no argument is required
check_free : (allowed : Bool) (rows : List Row) → check_fault (shape allowed) rows false ≡ []
check_free false rows = refl
check_free true rows = refl

-- where no step of a parse has a fault, the parse has none
all_empty : (a b c d : Kinds) → a ≡ [] → b ≡ [] → c ≡ [] → d ≡ [] → or_else a (or_else [] (or_else b (or_else c d))) ≡ []
all_empty a b c d p q r s = rw (p, q, r) s

-- where the words come to what is read of them, so does the parse
exactly_level : (allowed : Bool) (words : List Text) (o : Option Said) → Comes allowed (at false [] None) nothing_said words o
    → Exactly allowed (level_fault (shape allowed) [] nothing_held words false []) (rows_after (rules allowed) [] words) o
exactly_level allowed words None h = λ e. h (first_empty (walk_fault (shape allowed) [] (walk_from nothing_held) words) _ e)
exactly_level allowed words (Some said) h = (all_empty _ _ _ _ h.0 h.1.settles h.1.defaults (check_free allowed (finished (rules allowed) (walk (rules allowed) [] nothing_held words).held)), h.1.shows)

-- clap refuses the words where they are read as refused, and else finds what they say
exactly : {Z : Type 0} (allowed : Bool) (words : List (String Z))
    → Exactly allowed (fault_of (words_app allowed) (map string_bytes words)) (matches_of (words_app allowed) (map string_bytes words)) (said_from allowed false (map string_bytes words))
exactly false words =
    subst (λ kinds. Exactly false kinds (matches_of (words_app false) (map string_bytes words)) (said_from false false (map string_bytes words)))
    (sym (leaf_fault (built (words_app false)) nothing_held (map string_bytes words) refl))
    (exactly_level false (map string_bytes words) (said_from false false (map string_bytes words)) (comes_before false words (unsaid []) None))
exactly true words =
    subst (λ kinds. Exactly true kinds (matches_of (words_app true) (map string_bytes words)) (said_from true false (map string_bytes words)))
    (sym (leaf_fault (built (words_app true)) nothing_held (map string_bytes words) refl))
    (exactly_level true (map string_bytes words) (said_from true false (map string_bytes words)) (comes_before true words (unsaid []) None))

-- the words that name files, among those that were found
abbrev pub files_found : Found → List Text
files_found found = unwrap_or (option_map raw_values (matched_of found (codes "files"))) []

-- What was found says what the words say.
pub record SaysAll (allowed : Bool) (words : List Text) (found : Found) : Type 0 where
  pub said : Said
  pub read : said_from allowed false words ≡ Some said
  pub files : files_found found ≡ said.files
  pub journal : TellsFlag allowed (rows_of found) said.journal

-- where clap takes the words, what it found says what they say
pub all_said : {Z : Type 0} (allowed : Bool) (words : List (String Z)) (found : Found) → fault_of (words_app allowed) (map string_bytes words) ≡ []
    → rows_of found ≡ matches_of (words_app allowed) (map string_bytes words) → SaysAll allowed (map string_bytes words) found
all_said allowed words found free rows = go (said_from allowed false (map string_bytes words)) refl (exactly allowed words)
  where
    go : (o : Option Said) → said_from allowed false (map string_bytes words) ≡ o → Exactly allowed (fault_of (words_app allowed) (map string_bytes words)) (matches_of (words_app allowed) (map string_bytes words)) o
        → SaysAll allowed (map string_bytes words) found
    go None is h = absurd (h free)
    go (Some said) is h =
        let shows : Shows allowed (rows_of found) said = subst (λ r. Shows allowed r said) (sym rows) h.1 in
        record { said = said; read = is; files = ap (λ (o : Option (List Text)). unwrap_or o []) (raw_values-rows found (codes "files")) ∙ shows.files; journal = shows.journal }

-- where clap refuses the words, nothing is said
pub nothing_is_said : {Z : Type 0} (allowed : Bool) (words : List (String Z)) (k : ErrorKind) → IsAmong k (fault_of (words_app allowed) (map string_bytes words))
    → said_from allowed false (map string_bytes words) ≡ None
nothing_is_said allowed words k among = go (said_from allowed false (map string_bytes words)) (exactly allowed words)
  where
    go : (o : Option Said) → Exactly allowed (fault_of (words_app allowed) (map string_bytes words)) (matches_of (words_app allowed) (map string_bytes words)) o → o ≡ None
    go None h = refl
    go (Some said) h = absurd (subst (IsAmong k) h.0 among)

-- what `get_flag` reads of what was found
pub flag_read : (found : Found) (journal result : Bool) → TellsFlag true (rows_of found) journal → (one_text found (codes "journal") ≡ Some (codes "true") → result ≡ true)
    → (one_text found (codes "journal") ≡ Some (codes "false") → result ≡ false) → result ≡ journal
flag_read found true result tells on off = on (one_text-rows found (codes "journal") ∙ tells)
flag_read found false result tells on off = off (one_text-rows found (codes "journal") ∙ tells)
