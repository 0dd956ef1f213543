-- A line that is read is the one of its text.
use Rattle.std.proofs.Common.{◌≡◌, ℕ, ◌-◌, ◌<◌, ◌≤◌, leb, eqb, ◌&&◌, List, [], ◌∷◌, ◌++◌, length, get_or, take, drop, Some, refl, sym, ap, subst, ◌∙◌, arith, codes, append_assoc}
use Rattle.std.specs.List.{slice_split, flat_map, AllByRecursion}
use Rattle.std.specs.Fmt.{decimal}
use Rattle.std.specs.Str.{bytes_eq}
use Rattle.std.proofs.lemmas.Bool.{and_parts, eqb-true, leb-true}
use Rattle.std.proofs.lemmas.List.{take_all, map-id}
use Rattle.std.proofs.lemmas.Option.{cond_some}
use Rattle.ov_base.specs.Word.{itself}
use Rattle.ov_base.specs.Split.{cut_at, joined}
use Rattle.ov_base.specs.Number.{number_of}
use Rattle.ov_base.specs.Key.{IsKey, key_of}
use Rattle.ov_base.proofs.Readers.{bind_some, word_is, chosen, either}
use Rattle.ov_base.proofs.Numbers.{number_takes}
use Rattle.ov_base.proofs.Splits.{cut_takes, pair_takes}
use Rattle.ov_base.proofs.Joins.{joined_split, joined_flat, split_some}
use Rattle.ov_base.proofs.Keys.{key_takes}
use Rattle.ov_base.proofs.Traverse.{all_of_takes}
use Rattle.ov_functor.specs.Words.{parts_of}
use Rattle.ov_functor.proofs.PartWords.{parts_takes}
use Rattle.ov_topology.specs.Actor.{IsGate, gate_of, gate_text}
use Rattle.ov_topology.proofs.Actors.{gate_takes}
use Rattle.ov_session.specs.Name.{IsName, name_of}
use Rattle.ov_session.proofs.Names.{name_takes}
use Rattle.ov_session.specs.Standing.{most_commands}
use Rattle.ov_script.specs.declared.line.ScriptLine.{ScriptLine}
use Rattle.ov_script.specs.declared.line.ScriptLine.TheVariants.{Session, Do, Snap, After}
use Rattle.ov_script.specs.Line.{keys_text, line_text, IsKeys, IsLine, seq_of, session_of, keys_of, do_of, snap_of, after_of, kind_of, named_of, first_of, line_of}

-- ---- keys with a space between them

-- keys are the first key, and the others, each behind a space
pub first_key : (keys : List (List ℕ)) (first : List ℕ) → 0 < length keys → first ≡ get_or keys 0 first → first ++ flat_map (λ key. 32 ∷ key) (take (length keys - 1) (drop 1 keys)) ≡ keys_text keys
first_key [] first some is = absurd (omega arith)
first_key (key ∷ others) first some is =
    ap (λ (t : List (List ℕ)). first ++ flat_map (λ key. 32 ∷ key) t) (take_all (length (key ∷ others) - 1) others (omega arith))
    ∙ ap (λ (k : List ℕ). k ++ flat_map (λ key. 32 ∷ key) others) is
    ∙ joined_flat 32 key others

keys_some : (words : List (List ℕ)) (word : List ℕ) (others keys : List (List ℕ)) → words ≡ word ∷ others → words ≡ keys → AllByRecursion IsKey keys → IsKeys keys
keys_some words word others [] e f h = absurd cc
keys_some words word others (key ∷ keys) e f h = h

-- keys that are read are in form, and their bytes are their text
pub keys_takes : (bytes : List ℕ) (keys : List (List ℕ)) → keys_of bytes ≡ Some keys → IsKeys keys × (bytes ≡ keys_text keys)
keys_takes bytes keys e =
    let words = slice_split (λ b. eqb b 32) bytes in
    let all = all_of_takes key_of IsKey itself key_takes words keys e in
    let same : words ≡ keys = all.1 ∙ map-id keys in
    let some = split_some (λ b. eqb b 32) bytes in
    (keys_some words some.0 some.1 keys some.2 same all.0, sym (joined_split (λ b. eqb b 32) 32 (λ x h. eqb-true x 32 h) bytes) ∙ ap (joined 32) same)

-- ---- lines by their kinds

-- the line is in form, and these bytes are its text
abbrev IsSpelled : List ℕ → ScriptLine → Type 0
IsSpelled bytes line = IsLine line × (bytes ≡ line_text line)

seq_takes : (bytes : List ℕ) (seq : ℕ) → seq_of bytes ≡ Some seq → ((1 ≤ seq) × (seq ≤ most_commands)) × (bytes ≡ decimal seq)
seq_takes bytes seq e =
    bind_some (number_of bytes) _ seq e λ n read last.
    let c = cond_some (leb 1 n && leb n most_commands) n seq last in
    let tests = and_parts (leb 1 n) (leb n most_commands) c.0 in
    subst (λ (s : ℕ). ((1 ≤ s) × (s ≤ most_commands)) × (bytes ≡ decimal s)) c.1
    ((leb-true 1 n tests.0, leb-true n most_commands tests.1), (number_takes bytes n read).1)

session_takes : (rest : List ℕ) (line : ScriptLine) → session_of rest ≡ Some line → IsSpelled (codes "session " ++ rest) line
session_takes rest line e =
    let p = pair_takes 32 name_of gate_of Session IsName IsGate itself gate_text name_takes gate_takes rest line e in
    subst (IsSpelled (codes "session " ++ rest)) p.made ((p.fits_one, p.fits_other), ap (λ (t : List ℕ). codes "session " ++ t) p.spelled)

do_takes : (session rest : List ℕ) (line : ScriptLine) → IsName session → do_of session rest ≡ Some line → IsSpelled (session ++ codes " do " ++ rest) line
do_takes session rest line named e =
    bind_some (parts_of rest) _ line e λ parts read last.
    let q : ◌≡◌ {A = ScriptLine} (Do session parts) line = cc in
    let p = parts_takes rest parts read in
    subst (IsSpelled (session ++ codes " do " ++ rest)) q ((named, p.0), rw p.1 refl)

snap_takes : (session rest : List ℕ) (line : ScriptLine) → IsName session → snap_of session rest ≡ Some line → IsSpelled (session ++ codes " snap " ++ rest) line
snap_takes session rest line named e =
    bind_some (keys_of rest) _ line e λ keys read last.
    let q : ◌≡◌ {A = ScriptLine} (Snap session keys) line = cc in
    let k = keys_takes rest keys read in
    subst (IsSpelled (session ++ codes " snap " ++ rest)) q ((named, k.0), rw k.1 refl)

after_takes : (session rest : List ℕ) (line : ScriptLine) → IsName session → after_of session rest ≡ Some line → IsSpelled (session ++ codes " after " ++ rest) line
after_takes session rest line named e =
    let p = pair_takes 32 name_of seq_of (After session) IsName (λ seq. (1 ≤ seq) × (seq ≤ most_commands)) itself decimal name_takes seq_takes rest line e in
    subst (IsSpelled (session ++ codes " after " ++ rest)) p.made
    ((named, p.fits_one, p.fits_other.0, p.fits_other.1), ap (λ (t : List ℕ). session ++ codes " after " ++ t) p.spelled ∙ sym (append_assoc (session ++ codes " after ") p.one (32 ∷ decimal p.other)))

-- ---- a line

-- a word between two spaces stands behind what is before it
pub regroup : (a b c : List ℕ) → a ++ 32 ∷ (b ++ 32 ∷ c) ≡ a ++ (32 ∷ b ++ 32 ∷ []) ++ c
regroup a b c = ap (λ (t : List ℕ). a ++ 32 ∷ t) (sym (append_assoc b (32 ∷ []) c)) ∙ sym (append_assoc a (32 ∷ b ++ 32 ∷ []) c)

kind_takes : (session kind rest : List ℕ) (line : ScriptLine) → IsName session → kind_of session kind rest ≡ Some line → IsSpelled (session ++ (32 ∷ kind ++ 32 ∷ []) ++ rest) line
kind_takes session kind rest line named e =
    either (bytes_eq kind (codes "do")) (do_of session rest) _ line e (λ same h. rw (word_is kind (codes "do") same) (do_takes session rest line named h))
    λ e2. either (bytes_eq kind (codes "snap")) (snap_of session rest) _ line e2 (λ same h. rw (word_is kind (codes "snap") same) (snap_takes session rest line named h))
    λ e3. let c = chosen (bytes_eq kind (codes "after")) (after_of session rest) line e3 in
    rw (word_is kind (codes "after") c.0) (after_takes session rest line named c.1)

named_takes : (first rest : List ℕ) (line : ScriptLine) → named_of first rest ≡ Some line → IsSpelled (first ++ 32 ∷ rest) line
named_takes first rest line e =
    bind_some (name_of first) _ line e λ session read more.
    bind_some (cut_at 32 rest) _ line more λ words cut last.
    let n = name_takes first session read in
    let text : first ++ 32 ∷ rest ≡ session ++ (32 ∷ words.0 ++ 32 ∷ []) ++ words.1 =
    rw (n.1, cut_takes 32 rest words.0 words.1 cut) (regroup session words.0 words.1) in
    subst (λ (t : List ℕ). IsSpelled t line) (sym text) (kind_takes session words.0 words.1 line n.0 last)

first_takes : (first rest : List ℕ) (line : ScriptLine) → first_of first rest ≡ Some line → IsSpelled (first ++ 32 ∷ rest) line
first_takes first rest line e =
    either (bytes_eq first (codes "session")) (session_of rest) _ line e (λ same h. rw (word_is first (codes "session") same) (session_takes rest line h))
    λ other. named_takes first rest line other

-- a line that is read is in form, and its bytes are its text
pub line_takes : (text : List ℕ) (line : ScriptLine) → line_of text ≡ Some line → IsLine line × (text ≡ line_text line)
unfolding line_of
line_takes text line e =
    bind_some (cut_at 32 text) _ line e λ words cut last.
    let taken = first_takes words.0 words.1 line last in
    (taken.0, cut_takes 32 text words.0 words.1 cut ∙ taken.1)
