-- What is read as a name, and what a name lacks.
use Rattle.std.proofs.Common.{◌≡◌, ℕ, Bool, true, false, not, ltb, leb, ◌&&◌, List, [], ◌∷◌, length, slice_index, Some, refl, subst, arith}
use Rattle.std.specs.Prelude.{codes}
use Rattle.std.specs.Str.{bytes_eq}
use Rattle.std.proofs.lemmas.Bool.{lt-ltb, ltb-true, le-leb, leb-true, and_parts}
use Rattle.std.proofs.lemmas.Grind.{common_steps}
use Rattle.std.proofs.lemmas.Option.{cond_some}
use Rattle.ov_base.specs.Split.{lacks}
use Rattle.ov_base.specs.Key.{IsKey, key_of, is_key_byte, all_key_bytes}
use Rattle.ov_base.proofs.Splits.{passing_lack}
use Rattle.ov_base.proofs.Keys.{key_again}
use Rattle.ov_session.specs.Name.{IsName, name_of, is_name, name_room, is_name_byte, all_name_bytes, is_letter}

not_true : (b : Bool) → not b ≡ true → b ≡ false
not_true true h = absurd cc
not_true false h = refl

name_is : (bytes : List ℕ) → is_name bytes ≡ true → IsName bytes
name_is bytes e =
    let some = and_parts (ltb 0 (length bytes)) (leb (length bytes) name_room && (all_name_bytes bytes && (is_letter (slice_index bytes 0) && not (bytes_eq bytes (codes "session"))))) e in
    let short = and_parts (leb (length bytes) name_room) (all_name_bytes bytes && (is_letter (slice_index bytes 0) && not (bytes_eq bytes (codes "session")))) some.1 in
    let fit = and_parts (all_name_bytes bytes) (is_letter (slice_index bytes 0) && not (bytes_eq bytes (codes "session"))) short.1 in
    let first = and_parts (is_letter (slice_index bytes 0)) (not (bytes_eq bytes (codes "session"))) fit.1 in
    record {
      some = ltb-true 0 (length bytes) some.0;
      short = leb-true (length bytes) name_room short.0;
      bytes_fit = fit.0;
      first = first.0;
      other = not_true (bytes_eq bytes (codes "session")) first.1;
    }

-- a name is read as itself
pub name_again : (name : List ℕ) → IsName name → name_of name ≡ Some name
unfolding name_of
name_again name h = rw (lt-ltb 0 (length name) h.some, le-leb (length name) name_room h.short, h.bytes_fit, h.first, h.other) refl

-- what is read as a name is that name
pub name_takes : (bytes name : List ℕ) → name_of bytes ≡ Some name → IsName name × (bytes ≡ name)
unfolding name_of
name_takes bytes name e =
    let q = cond_some (is_name bytes) bytes name e in
    (subst IsName q.1 (name_is bytes q.0), q.1)

name_byte_is_key_byte : (b : ℕ) → is_name_byte b ≡ true → is_key_byte b ≡ true
name_byte_is_key_byte b h = grind (arith, common_steps)

name_bytes_are_key_bytes : (bytes : List ℕ) → all_name_bytes bytes ≡ true → all_key_bytes bytes ≡ true
name_bytes_are_key_bytes [] h = refl
name_bytes_are_key_bytes (b ∷ bytes) h =
    let each = and_parts (is_name_byte b) (all_name_bytes bytes) h in
    rw (name_byte_is_key_byte b each.0) (name_bytes_are_key_bytes bytes each.1)

-- a name is a key
pub name_is_key : (name : List ℕ) → IsName name → IsKey name
name_is_key name h = record { some = h.some; short = omega (arith, h.short); letters = name_bytes_are_key_bytes name h.bytes_fit }

-- so the bytes of a name are read as a key
pub name_as_key : (bytes : List ℕ) → is_name bytes ≡ true → key_of bytes ≡ Some bytes
name_as_key bytes e = key_again bytes (name_is_key bytes (name_is bytes e))

-- a name lacks each byte that is not one of names
pub name_lacks : (b : ℕ) (name : List ℕ) → is_name_byte b ≡ false → IsName name → lacks b name ≡ true
name_lacks b name other h = passing_lack is_name_byte b name other h.bytes_fit

-- a name has no space
pub name_lacks_space : (name : List ℕ) → IsName name → lacks 32 name ≡ true
name_lacks_space name h = name_lacks 32 name refl h

-- a name has no end of line
pub name_lacks_newline : (name : List ℕ) → IsName name → lacks 10 name ≡ true
name_lacks_newline name h = name_lacks 10 name refl h

-- a name is not the word `session`
pub name_is_no_word : (name : List ℕ) → IsName name → bytes_eq name (codes "session") ≡ false
name_is_no_word name h = h.other
