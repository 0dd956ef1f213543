-- The numbers and lists of a line: what is read is in form and these are its words, and the words of what is in form are read as it.
use Rattle.std.proofs.Common.{◌≡◌, ℕ, ◌-◌, ◌<◌, ◌^◌, Bool, leb, ◌&&◌, not, true, false, List, [], ◌∷◌, map, length, Some, refl, ap, sym, subst, ◌∙◌, arith}
use Rattle.std.specs.List.{AllByRecursion}
use Rattle.std.specs.Fmt.{decimal}
use Rattle.std.proofs.lemmas.Bool.{le-leb, leb-true, and_parts}
use Rattle.std.proofs.lemmas.Option.{cond_some}
use Rattle.ov_base.specs.Word.{itself}
use Rattle.ov_base.specs.Key.{IsKey, key_of, repeats}
use Rattle.ov_base.specs.Split.{all_of}
use Rattle.ov_base.specs.Value.{value_of}
use Rattle.ov_base.specs.Version.{version_of}
use Rattle.ov_base.proofs.GroupTexts.{IsGrouped}
use Rattle.ov_base.proofs.GroupedWords.{key_grouped, value_grouped, version_grouped}
use Rattle.ov_base.proofs.Keys.{key_again, key_takes}
use Rattle.ov_base.proofs.Numbers.{within_again, within_takes}
use Rattle.ov_base.proofs.Readers.{bind_some}
use Rattle.ov_base.proofs.Traverse.{all_of_again, all_of_takes, all_of_texts}
use Rattle.ov_base.proofs.Values.{value_again, value_takes}
use Rattle.ov_base.proofs.Versions.{version_again, version_takes}
use Rattle.ov_functor.specs.declared.item.Valued.{Valued}
use Rattle.ov_gossip.specs.declared.marks.Marks.{Marks}
use Rattle.ov_journal.specs.Line.{most_sessions, most_commands, most_keys, IsCommand, IsRound, IsMarks, IsSpelledVector, IsValued, IsKeys, marks_words, valued_words}
use Rattle.ov_journal.specs.Read.{session_of, seq_of, round_of, time_of, marks_of, vector_of, valued_of, keys_of}

-- ---- numbers

pub session_again : (session seq : ℕ) → IsCommand session seq → session_of (decimal session) ≡ Some session
session_again session seq h = within_again 0 (most_sessions - 1) (omega arith) session (omega arith, omega (arith, h.held))

pub seq_again : (session seq : ℕ) → IsCommand session seq → seq_of (decimal seq) ≡ Some seq
seq_again session seq h = within_again 1 most_commands (omega arith) seq (h.some, h.few)

pub round_again : (round : ℕ) → IsRound round → round_of (decimal round) ≡ Some round
round_again round h = within_again 1 (2 ^ 64 - 1) (omega arith) round (h.some, omega (arith, h.held))

pub time_again : (time : ℕ) → time < 2 ^ 47 → time_of (decimal time) ≡ Some time
time_again time h = within_again 0 (2 ^ 47 - 1) (omega arith) time (omega arith, omega arith)

-- The two words are those of a command.
pub record Commands (word other : List ℕ) (session seq : ℕ) : Type 0 where
  pub fits : IsCommand session seq
  pub one : word ≡ decimal session
  pub two : other ≡ decimal seq

pub command_takes : (word other : List ℕ) (session seq : ℕ) → session_of word ≡ Some session → seq_of other ≡ Some seq → Commands word other session seq
command_takes word other session seq e f =
    let s = within_takes 0 (most_sessions - 1) word session e in
    let c = within_takes 1 most_commands other seq f in
    record { fits = record { held = omega (arith, s.0.1); some = c.0.0; few = c.0.1 }; one = s.1; two = c.1 }

pub round_takes : (word : List ℕ) (round : ℕ) → round_of word ≡ Some round → IsRound round × (word ≡ decimal round)
round_takes word round e = let r = within_takes 1 (2 ^ 64 - 1) word round e in (record { some = r.0.0; held = omega (arith, r.0.1) }, r.1)

pub time_takes : (word : List ℕ) (time : ℕ) → time_of word ≡ Some time → (time < 2 ^ 47) × (word ≡ decimal time)
time_takes word time e = let t = within_takes 0 (2 ^ 47 - 1) word time e in (omega (arith, t.0.1), t.1)

-- ---- vectors

marks_again : (marks : Marks) → IsMarks marks → marks_of (marks_words marks) ≡ Some marks
unfolding marks_of
marks_again marks h = rw (version_again marks.low h.0, version_again marks.full h.1, version_again marks.done h.2) refl

marks_takes : (words : List (List ℕ)) (marks : Marks) → marks_of words ≡ Some marks → IsMarks marks × (words ≡ marks_words marks)
unfolding marks_of
marks_takes [] marks e = absurd cc
marks_takes (low ∷ []) marks e = absurd cc
marks_takes (low ∷ full ∷ []) marks e = absurd cc
marks_takes (low ∷ full ∷ done ∷ []) marks e =
    bind_some (version_of low) _ marks e λ l read rest.
    bind_some (version_of full) _ marks rest λ f read2 rest2.
    bind_some (version_of done) _ marks rest2 λ d read3 last.
    let first = version_takes low l read in
    let second = version_takes full f read2 in
    let third = version_takes done d read3 in
    let made : Marks = record { low = l; full = f; done = d } in
    let q : made ≡ marks = cc in
    subst (λ (m : Marks). IsMarks m × (low ∷ full ∷ done ∷ [] ≡ marks_words m)) q ((first.0, second.0, third.0), rw (first.1, second.1, third.1) refl)
marks_takes (low ∷ full ∷ done ∷ more ∷ words) marks e = absurd cc

pub vector_again : (vector : List Marks) → IsSpelledVector vector → vector_of (map marks_words vector) ≡ Some vector
vector_again vector h =
    rw (all_of_again marks_of IsMarks marks_words marks_again vector h.1, le-leb 1 (length vector) h.0.some, le-leb (length vector) 8 h.0.few) refl

pub vector_takes : (groups : List (List (List ℕ))) (vector : List Marks) → vector_of groups ≡ Some vector → IsSpelledVector vector × (groups ≡ map marks_words vector)
vector_takes groups vector e =
    bind_some (all_of marks_of groups) _ vector e λ all each last.
    let q = cond_some (leb 1 (length all) && leb (length all) 8) all vector last in
    let tests = and_parts (leb 1 (length all)) (leb (length all) 8) q.0 in
    let t = all_of_takes marks_of IsMarks marks_words marks_takes groups all each in
    subst (λ (v : List Marks). IsSpelledVector v × (groups ≡ map marks_words v)) q.1
    ((record { some = leb-true 1 (length all) tests.0; few = leb-true (length all) 8 tests.1 }, t.0), t.1)

marks_grouped : (marks : Marks) → IsMarks marks → AllByRecursion IsGrouped (marks_words marks)
marks_grouped marks h = (version_grouped marks.low h.0, (version_grouped marks.full h.1, (version_grouped marks.done h.2, tt)))

pub vector_grouped : (vector : List Marks) → IsSpelledVector vector → AllByRecursion (AllByRecursion IsGrouped) (map marks_words vector)
vector_grouped vector h = all_of_texts (AllByRecursion IsGrouped) IsMarks marks_words marks_grouped vector h.1

-- ---- settled values

valued_again : (valued : Valued) → IsValued valued → valued_of (valued_words valued) ≡ Some valued
unfolding valued_of
valued_again valued h = rw (version_again valued.version h.0, key_again valued.key h.1, value_again valued.value h.2) refl

valued_takes : (words : List (List ℕ)) (valued : Valued) → valued_of words ≡ Some valued → IsValued valued × (words ≡ valued_words valued)
unfolding valued_of
valued_takes [] valued e = absurd cc
valued_takes (version ∷ []) valued e = absurd cc
valued_takes (version ∷ key ∷ []) valued e = absurd cc
valued_takes (version ∷ key ∷ value ∷ []) valued e =
    bind_some (version_of version) _ valued e λ v read rest.
    bind_some (key_of key) _ valued rest λ k read2 rest2.
    bind_some (value_of value) _ valued rest2 λ x read3 last.
    let first = version_takes version v read in
    let second = key_takes key k read2 in
    let third = value_takes value x read3 in
    let made : Valued = record { version = v; key = k; value = x } in
    let q : made ≡ valued = cc in
    subst (λ (m : Valued). IsValued m × (version ∷ key ∷ value ∷ [] ≡ valued_words m)) q ((first.0, second.0, third.0), rw (first.1, second.1, third.1) refl)
valued_takes (version ∷ key ∷ value ∷ more ∷ words) valued e = absurd cc

pub values_again : (values : List Valued) → AllByRecursion IsValued values → all_of valued_of (map valued_words values) ≡ Some values
values_again values h = all_of_again valued_of IsValued valued_words valued_again values h

pub values_takes : (groups : List (List (List ℕ))) (values : List Valued) → all_of valued_of groups ≡ Some values → AllByRecursion IsValued values × (groups ≡ map valued_words values)
values_takes groups values e = all_of_takes valued_of IsValued valued_words valued_takes groups values e

valued_grouped : (valued : Valued) → IsValued valued → AllByRecursion IsGrouped (valued_words valued)
valued_grouped valued h = (version_grouped valued.version h.0, (key_grouped valued.key h.1, (value_grouped valued.value h.2, tt)))

pub values_grouped : (values : List Valued) → AllByRecursion IsValued values → AllByRecursion (AllByRecursion IsGrouped) (map valued_words values)
values_grouped values h = all_of_texts (AllByRecursion IsGrouped) IsValued valued_words valued_grouped values h

-- ---- keys

each_itself : (words : List (List ℕ)) → map itself words ≡ words
each_itself [] = refl
each_itself (word ∷ words) = ap (λ (t : List (List ℕ)). word ∷ t) (each_itself words)

pub keys_again : (keys : List (List ℕ)) → IsKeys keys → keys_of keys ≡ Some keys
keys_again keys h =
    let all : all_of key_of keys ≡ Some keys = ap (all_of key_of) (sym (each_itself keys)) ∙ all_of_again key_of IsKey itself key_again keys h.each in
    rw (all, le-leb 1 (length keys) h.some, le-leb (length keys) most_keys h.few, h.apart) refl

pub keys_takes : (words keys : List (List ℕ)) → keys_of words ≡ Some keys → IsKeys keys × (words ≡ keys)
keys_takes words keys e =
    bind_some (all_of key_of words) _ keys e λ all each last.
    let q = cond_some (leb 1 (length all) && (leb (length all) most_keys && not (repeats all))) all keys last in
    let first = and_parts (leb 1 (length all)) (leb (length all) most_keys && not (repeats all)) q.0 in
    let rest = and_parts (leb (length all) most_keys) (not (repeats all)) first.1 in
    let t = all_of_takes key_of IsKey itself key_takes words all each in
    let fits : IsKeys all = record { some = leb-true 1 (length all) first.0; few = leb-true (length all) most_keys rest.0; each = t.0; apart = not_true (repeats all) rest.1 } in
    subst (λ (k : List (List ℕ)). IsKeys k × (words ≡ k)) q.1 (fits, t.1 ∙ each_itself all)
  where
    not_true : (b : Bool) → not b ≡ true → b ≡ false
    not_true true h = absurd cc
    not_true false h = refl

pub keys_grouped : (keys : List (List ℕ)) → AllByRecursion IsKey keys → AllByRecursion IsGrouped keys
keys_grouped [] h = tt
keys_grouped (key ∷ keys) h = (key_grouped key h.0, keys_grouped keys h.1)
