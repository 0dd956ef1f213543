-- How the bytes of a key lie in its cells; what is read as a key; what is in none.
use Rattle.std.proofs.Common.{◌≡◌, ℕ, zero, suc, ◌-◌, ◌<◌, ◌≤◌, true, false, ltb, leb, ◌&&◌, nat_eq, is_eq, nat_cmp, List, [], ◌∷◌, ◌++◌, length, take, drop, Some, refl, sym, ap, ap₂, subst, ◌∙◌, arith}
use Rattle.std.specs.Prelude.{replicate}
use Rattle.std.specs.List.{AllByRecursion}
use Rattle.std.specs.Cmp.Lexicographic.{pointwise, slice_cmp, texts_ties}
use Rattle.std.proofs.lemmas.List.{drop-replicate, length-replicate, length-append, take_at, drop_at}
use Rattle.std.proofs.lemmas.Bool.{lt-ltb, ltb-true, le-leb, leb-true, and_parts}
use Rattle.std.proofs.lemmas.Option.{cond_some}
use Rattle.ov_base.specs.Split.{lacks}
use Rattle.ov_base.specs.Lemmas.{key_eq-equiv, key_eq-ties, padded_cells, padded_len}
use Rattle.ov_base.specs.Key.{key_eq, IsKey, IsPadded, key_room, key_of, is_key_byte, all_key_bytes}
use Rattle.ov_base.proofs.Padding.{padded_order}
use Rattle.ov_base.proofs.Splits.{passing_lack}

pub padded_new : (new bytes : List ℕ) → new ≡ bytes → 0 < length bytes → length bytes ≤ 32 → all_key_bytes bytes ≡ true
    → IsPadded (new ++ drop (length bytes) (replicate 32 0)) (length bytes)
padded_new new bytes e some short letters =
    let same_len : length new ≡ length bytes = ap length e in
    let tail : drop (length bytes) (replicate 32 0) ≡ replicate (32 - length bytes) 0 = drop-replicate (length bytes) 32 0 in
    let tail_len : length (drop (length bytes) (replicate 32 0)) ≡ 32 - length bytes = ap length tail ∙ length-replicate (32 - length bytes) 0 in
    record {
      room = omega (arith, length-append new (drop (length bytes) (replicate 32 0)), tail_len, same_len);
      some = some;
      short = short;
      letters = rw (take_at new (drop (length bytes) (replicate 32 0)) (length bytes) same_len, e) letters;
      zeros = drop_at new (drop (length bytes) (replicate 32 0)) (length bytes) same_len ∙ tail;
    }

-- a key is the same as itself
pub key_eq-self : (key : List ℕ) → key_eq key key ≡ true
key_eq-self key = key_eq-equiv.refl key

-- a key is read as itself
pub key_again : (key : List ℕ) → IsKey key → key_of key ≡ Some key
key_again key h = rw (lt-ltb 0 (length key) h.some, le-leb (length key) key_room h.short, h.letters) refl

-- what is read as a key is that key
pub key_takes : (bytes key : List ℕ) → key_of bytes ≡ Some key → IsKey key × (bytes ≡ key)
key_takes bytes key e =
    let q = cond_some (ltb 0 (length bytes) && (leb (length bytes) key_room && all_key_bytes bytes)) bytes key e in
    let some = and_parts (ltb 0 (length bytes)) (leb (length bytes) key_room && all_key_bytes bytes) q.0 in
    let rest = and_parts (leb (length bytes) key_room) (all_key_bytes bytes) some.1 in
    let h : IsKey bytes = record { some = ltb-true 0 (length bytes) some.0; short = leb-true (length bytes) key_room rest.0; letters = rest.1 } in
    (subst IsKey q.1 h, q.1)

-- a key lacks each byte that is not one of keys
pub key_lacks : (b : ℕ) (key : List ℕ) → is_key_byte b ≡ false → IsKey key → lacks b key ≡ true
key_lacks b key other h = passing_lack is_key_byte b key other h.letters

-- ---- keys in their cells

-- the bytes of keys are above 0
above_zero : (xs : List ℕ) → all_key_bytes xs ≡ true → AllByRecursion (λ x. 0 < x) xs
above_zero [] h = tt
above_zero (zero ∷ xs) h = absurd cc
above_zero (suc x ∷ xs) h = (omega arith, above_zero xs (and_parts (is_key_byte (suc x)) (all_key_bytes xs) h).1)

-- keys are ordered as their cells
pub cells_ordered : (cells others : List ℕ) (len other : ℕ) → IsPadded cells len → IsPadded others other
    → slice_cmp nat_cmp cells others ≡ slice_cmp nat_cmp (take len cells) (take other others)
cells_ordered cells others len other h k =
    sym (ap₂ (slice_cmp nat_cmp) (padded_cells cells len h) (padded_cells others other k))
    ∙ padded_order (take len cells) (take other others) (key_room - length (take len cells)) (key_room - length (take other others))
    (above_zero (take len cells) h.letters) (above_zero (take other others) k.letters)
    (omega (arith, padded_len cells len h, padded_len others other k, h.short, k.short))

-- keys are the same where their cells are
pub cells_tied : (cells others : List ℕ) (len other : ℕ) → IsPadded cells len → IsPadded others other
    → pointwise nat_eq cells others ≡ key_eq (take len cells) (take other others)
cells_tied cells others len other h k =
    texts_ties cells others ∙ ap is_eq (cells_ordered cells others len other h k) ∙ sym (key_eq-ties (take len cells) (take other others))
