-- The text of a line is read as that line.
use Rattle.std.proofs.Common.{◌≡◌, ℕ, ◌<◌, ◌≤◌, true, eqb, List, [], ◌∷◌, ◌++◌, length, Some, refl, sym, ap, ◌∙◌, arith, codes, append_assoc}
use Rattle.std.specs.List.{All, list_all, AllByRecursion}
use Rattle.std.specs.Fmt.{decimal}
use Rattle.std.proofs.lemmas.Bool.{and_parts, le-leb}
use Rattle.std.proofs.lemmas.List.{map-id}
use Rattle.std.proofs.lemmas.List.Elements.{recursion_from_All}
use Rattle.ov_base.specs.Word.{Reads, itself}
use Rattle.ov_base.specs.Split.{lacks, all_of}
use Rattle.ov_base.specs.Key.{IsKey, key_of}
use Rattle.ov_base.proofs.Lists.{all_weaker}
use Rattle.ov_base.proofs.Readers.{reads_by_laws}
use Rattle.ov_base.proofs.Traverse.{all_of_again}
use Rattle.ov_base.proofs.Numbers.{number_again}
use Rattle.ov_base.proofs.Splits.{cut_again, pair_again, decimal_lacks, lacks_appended}
use Rattle.ov_base.proofs.Joins.{Lacks, HasFirst, lacks_each, lacks_joined, split_again}
use Rattle.ov_base.proofs.Keys.{key_again, key_lacks}
use Rattle.ov_functor.specs.declared.part.Part.{Part}
use Rattle.ov_functor.specs.Transaction.{is_positive}
use Rattle.ov_functor.specs.Words.{parts_text, IsPart, IsParts}
use Rattle.ov_functor.proofs.PartWordsAgain.{parts_again, parts_lack, parts_positive}
use Rattle.ov_topology.specs.Actor.{IsGate, gate_of, gate_text}
use Rattle.ov_topology.proofs.Actors.{gate_again, gate_lacks}
use Rattle.ov_session.specs.Name.{IsName, name_of}
use Rattle.ov_session.proofs.Names.{name_again, name_lacks_space, name_lacks_newline, name_is_no_word}
use Rattle.ov_session.specs.Standing.{most_commands}
use Rattle.ov_script.specs.declared.line.ScriptLine.{ScriptLine}
use Rattle.ov_script.specs.declared.line.ScriptLine.TheVariants.{Session, Do, Snap, After}
use Rattle.ov_script.specs.Line.{keys_text, line_text, IsKeys, IsLine, CanAdd, HasSome, seq_of, session_of, keys_of, after_of, kind_of, line_of}
use Rattle.ov_script.proofs.LineWords.{regroup, line_takes}

-- ---- keys

keys_first : (keys : List (List ℕ)) → IsKeys keys → HasFirst keys
keys_first [] h = absurd h
keys_first (key ∷ others) h = (key, others, refl)

keys_each : (keys : List (List ℕ)) → IsKeys keys → AllByRecursion IsKey keys
keys_each [] h = absurd h
keys_each (key ∷ others) h = h

-- the text of keys in form is read as those keys
pub keys_again : (keys : List (List ℕ)) → IsKeys keys → keys_of (keys_text keys) ≡ Some keys
keys_again keys h =
    let each = keys_each keys h in
    let free = all_weaker IsKey (Lacks (λ b. eqb b 32)) (λ key k. lacks_each 32 key (key_lacks 32 key refl k)) keys each in
    ap (all_of key_of) (split_again (λ b. eqb b 32) 32 refl keys (keys_first keys h) free)
    ∙ ap (all_of key_of) (sym (map-id keys)) ∙ all_of_again key_of IsKey itself key_again keys each

-- the text of keys has no line feed
keys_lack : (keys : List (List ℕ)) → IsKeys keys → lacks 10 (keys_text keys) ≡ true
keys_lack keys h = lacks_joined 10 32 refl keys (all_weaker IsKey (λ key. lacks 10 key ≡ true) (λ key k. key_lacks 10 key refl k) keys (keys_each keys h))

-- ---- lines by their kinds

seq_again : (seq : ℕ) → 1 ≤ seq → seq ≤ most_commands → seq_of (decimal seq) ≡ Some seq
seq_again seq low high = rw (number_again seq (omega arith), le-leb 1 seq low, le-leb seq most_commands high) refl

session_again : (name : List ℕ) (gate : ℕ) → IsName name → IsGate gate → session_of (name ++ 32 ∷ gate_text gate) ≡ Some (Session name gate)
session_again name gate n g =
    pair_again 32 name_of gate_of Session name (gate_text gate) name gate (name_lacks_space name n) (name_again name n) (gate_again gate g)

after_again : (session other : List ℕ) (seq : ℕ) → IsName other → 1 ≤ seq → seq ≤ most_commands → after_of session (other ++ 32 ∷ decimal seq) ≡ Some (After session other seq)
after_again session other seq n low high =
    pair_again 32 name_of seq_of (After session) other (decimal seq) other seq (name_lacks_space other n) (name_again other n) (seq_again seq low high)

-- ---- a line

-- the name of a session, a word without a space, and what stands behind it
behind_again : (session kind rest : List ℕ) → IsName session → lacks 32 kind ≡ true → line_of (session ++ (32 ∷ kind ++ 32 ∷ []) ++ rest) ≡ kind_of session kind rest
unfolding line_of
behind_again session kind rest n free =
    rw (
      ← regroup session kind rest,
      cut_again 32 session (kind ++ 32 ∷ rest) (name_lacks_space session n),
      name_is_no_word session n,
      name_again session n,
      cut_again 32 kind rest free,
    ) refl

-- the text of a line in form is read as that line
pub line_again : (line : ScriptLine) → IsLine line → line_of (line_text line) ≡ Some line
unfolding line_of
line_again (Session name gate) h = session_again name gate h.0 h.1
line_again (Do session parts) h = behind_again session (codes "do") (parts_text parts) h.0 refl ∙ rw (parts_again parts h.1) refl
line_again (Snap session keys) h = behind_again session (codes "snap") (keys_text keys) h.0 refl ∙ rw (keys_again keys h.1) refl
line_again (After session other seq) h =
    ap line_of (append_assoc (session ++ codes " after ") other (32 ∷ decimal seq))
    ∙ behind_again session (codes "after") (other ++ 32 ∷ decimal seq) h.0 refl
    ∙ after_again session other seq h.1 h.2 h.3

-- what is read is the line that the bytes spell, and nothing where they spell none
pub line_reads : (text : List ℕ) → Reads line_text IsLine text (line_of text)
line_reads text = reads_by_laws line_of line_text IsLine line_again line_takes text

-- ---- for texts of lines

-- the text of a line has no line feed
pub line_lacks : (line : ScriptLine) → IsLine line → lacks 10 (line_text line) ≡ true
line_lacks (Session name gate) h =
    lacks_appended 10 (codes "session " ++ name) (32 ∷ gate_text gate) (lacks_appended 10 (codes "session ") name refl (name_lacks_newline name h.0))
    (gate_lacks 10 gate (omega arith) h.1)
line_lacks (Do session parts) h =
    lacks_appended 10 (session ++ codes " do ") (parts_text parts) (lacks_appended 10 session (codes " do ") (name_lacks_newline session h.0) refl) (parts_lack parts h.1)
line_lacks (Snap session keys) h =
    lacks_appended 10 (session ++ codes " snap ") (keys_text keys) (lacks_appended 10 session (codes " snap ") (name_lacks_newline session h.0) refl) (keys_lack keys h.1)
line_lacks (After session other seq) h =
    lacks_appended 10 (session ++ codes " after " ++ other) (32 ∷ decimal seq)
    (lacks_appended 10 (session ++ codes " after ") other (lacks_appended 10 session (codes " after ") (name_lacks_newline session h.0) refl) (name_lacks_newline other h.1))
    (decimal_lacks 10 seq (omega arith) (omega (arith, h.3)))

-- ---- lines that may be added

parts_some : (parts : List Part) → IsParts parts → 0 < length parts
parts_some [] h = absurd h
parts_some (part ∷ others) h = omega arith

keys_length : (keys : List (List ℕ)) → IsKeys keys → 0 < length keys
keys_length [] h = absurd h
keys_length (key ∷ others) h = omega arith

-- a line in form may be added
pub line_can_add : (line : ScriptLine) → IsLine line → CanAdd line
line_can_add (Session name gate) h = h.1
line_can_add (Do session parts) h = (parts_some parts h.1, parts_positive parts h.1)
line_can_add (Snap session keys) h = keys_length keys h.1
line_can_add (After session other seq) h = (h.2, h.3)

-- keys that may be added are in form, where each is by its type
pub keys_fit : (keys : List (List ℕ)) → HasSome keys → All IsKey keys → IsKeys keys
keys_fit [] some each = absurd (omega (arith, some))
keys_fit (key ∷ others) some each = recursion_from_All IsKey (key ∷ others) each

each_part : (parts : List Part) → list_all is_positive parts ≡ true → AllByRecursion (λ part. is_positive part ≡ true → IsPart part) parts → AllByRecursion IsPart parts
each_part [] positive each = tt
each_part (part ∷ others) positive each =
    let tests = and_parts (is_positive part) (list_all is_positive others) positive in
    (each.0 tests.0, each_part others tests.1 each.1)

-- parts that may be added are in form, where each is by its type
pub parts_fit : (parts : List Part) → HasSome parts → list_all is_positive parts ≡ true → All (λ part. is_positive part ≡ true → IsPart part) parts → IsParts parts
parts_fit [] some positive each = absurd (omega (arith, some))
parts_fit (part ∷ others) some positive each = each_part (part ∷ others) positive (recursion_from_All _ (part ∷ others) each)
