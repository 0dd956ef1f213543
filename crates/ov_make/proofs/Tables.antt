-- The names of sessions and keys: tables over all of them, each a test that computes, and what the tests say of one of them.
use Rattle.std.proofs.Common.{◌≡◌, ℕ, suc, arith, cond, ltb, ◌≤◌, ◌+◌, ◌%◌, ◌<◌, Bool, true, false, List, [], ◌∷◌, Some, None, Option, refl, is_some}
use Rattle.std.specs.Fmt.{digits}
use Rattle.std.specs.Str.{bytes_eq}
use Rattle.std.proofs.lemmas.Bool.{agree_below, agree_below_at, lt-ltb, lt-leb}
use Rattle.ov_base.proofs.Readers.{word_is}
use Rattle.ov_base.specs.Key.{IsKey, key_eq, key_of}
use Rattle.ov_base.proofs.Keys.{key_takes}
use Rattle.ov_session.specs.Name.{IsName, name_of}
use Rattle.ov_session.proofs.Names.{name_takes}
use Rattle.ov_make.specs.Made.{session_name, key_name, sessions, keys}

-- ---- what a table of tests says

-- a test that is passed at each number below n is passed at this one
pub passed_below : (test : ℕ → Bool) (n i : ℕ) → agree_below test (λ k. true) n ≡ true → i < n → test i ≡ true
passed_below test n i e h = agree_below_at test (λ k. true) n i e h

-- a test that is failed at each number below n is failed at this one
pub failed_below : (test : ℕ → Bool) (n i : ℕ) → agree_below test (λ k. false) n ≡ true → i < n → test i ≡ false
failed_below test n i e h = agree_below_at test (λ k. false) n i e h

-- what is there is something
there : {A : Type 0} (o : Option A) → is_some o ≡ true → (x : A) × (o ≡ Some x)
there None e = absurd cc
there (Some x) e = (x, refl)

-- ---- sessions

-- the name of each session is read as a name
name_table : agree_below (λ j. is_some (name_of (session_name j))) (λ k. true) sessions ≡ true
unfolding session_name name_of digits
name_table = refl

pub session_named : (j : ℕ) → j < sessions → IsName (session_name j)
session_named j h =
    let name = there (name_of (session_name j)) (passed_below (λ i. is_some (name_of (session_name i))) sessions j name_table h) in
    let taken = name_takes (session_name j) name.0 name.1 in
    rw taken.1 taken.0

-- ---- keys

-- the name of each key is read as a key
key_table : agree_below (λ k. is_some (key_of (key_name k))) (λ k. true) keys ≡ true
unfolding key_name digits
key_table = refl

pub key_named : (k : ℕ) → k < keys → IsKey (key_name k)
key_named k h =
    let key = there (key_of (key_name k)) (passed_below (λ i. is_some (key_of (key_name i))) keys k key_table h) in
    let taken = key_takes (key_name k) key.0 key.1 in
    rw taken.1 taken.0

-- whether a key is the one that stands so many places behind it, all keys in a circle
abbrev met : ℕ → ℕ → Bool
met k d = key_eq (key_name k) (key_name ((k + 1 + d) % 8))

apart_table : agree_below (λ k. agree_below (met k) (λ d. false) 7) (λ k. true) keys ≡ true
unfolding key_name key_eq digits
apart_table = refl

-- up to seven places on stands another key
pub keys_apart : (k d : ℕ) → k < keys → d < 7 → key_eq (key_name k) (key_name ((k + 1 + d) % 8)) ≡ false
keys_apart k d h below = failed_below (met k) 7 d (passed_below (λ i. agree_below (met i) (λ e. false) 7) keys k apart_table h) below

-- ---- how names are spelled

-- the bytes that session j is spelled by
abbrev spelled : ℕ → List ℕ
spelled j = cond (ltb j 10) (115 ∷ (48 + j % 10) ∷ []) (115 ∷ 49 ∷ (48 + j % 10) ∷ [])

spelling_table : agree_below (λ j. bytes_eq (spelled j) (session_name j)) (λ j. true) sessions ≡ true
unfolding session_name digits
spelling_table = refl

spelling : (j : ℕ) → j < sessions → spelled j ≡ session_name j
spelling j h = word_is (spelled j) (session_name j) (passed_below (λ i. bytes_eq (spelled i) (session_name i)) sessions j spelling_table h)

-- with one digit
pub short_name : (j : ℕ) → j < 10 → 115 ∷ (48 + j % 10) ∷ [] ≡ session_name j
short_name j h = rw (lt-ltb j 10 h) at (spelling j (omega arith))

-- and with two
pub long_name : (j : ℕ) → 10 ≤ j → j < sessions → 115 ∷ 49 ∷ (48 + j % 10) ∷ [] ≡ session_name j
long_name j low h = rw (lt-leb (suc j) 10 (omega arith)) at (spelling j h)

key_spelling_table : agree_below (λ k. bytes_eq (107 ∷ (48 + k) ∷ []) (key_name k)) (λ k. true) keys ≡ true
unfolding key_name digits
key_spelling_table = refl

-- a key is spelled with one digit
pub key_spelled : (k : ℕ) → k < keys → 107 ∷ (48 + k) ∷ [] ≡ key_name k
key_spelled k h = word_is (107 ∷ (48 + k) ∷ []) (key_name k) (passed_below (λ i. bytes_eq (107 ∷ (48 + i) ∷ []) (key_name i)) keys k key_spelling_table h)
