-- How the marks of a new vector lie in their places.
use Rattle.std.proofs.Common.{◌≡◌, ℕ, ◌-◌, ◌≤◌, List, ◌++◌, length, drop, refl, ap, ◌∙◌, arith}
use Rattle.std.specs.Prelude.{replicate}
use Rattle.std.proofs.lemmas.List.{drop-replicate, length-replicate, length-append, drop_at}
use Rattle.ov_gossip.specs.Marks.{no_marks, IsVector}
use Rattle.ov_gossip.specs.Padded.{IsPadded}
use Rattle.ov_gossip.specs.declared.marks.Marks.{Marks}

pub padded_new : (count : ℕ) → 1 ≤ count → count ≤ 8 → IsPadded (replicate 8 no_marks) count
padded_new count some few = record {
  room = refl;
  some = some;
  few = few;
  nothing = drop-replicate count 8 no_marks;
}

-- the same where the marks are copied into the first places
pub padded_of : (new marks : List Marks) → new ≡ marks → IsVector marks → IsPadded (new ++ drop (length marks) (replicate 8 no_marks)) (length marks)
padded_of new marks e h =
    let same_len : length new ≡ length marks = ap length e in
    let tail : drop (length marks) (replicate 8 no_marks) ≡ replicate (8 - length marks) no_marks = drop-replicate (length marks) 8 no_marks in
    let tail_len : length (drop (length marks) (replicate 8 no_marks)) ≡ 8 - length marks = ap length tail ∙ length-replicate (8 - length marks) no_marks in
    record {
      room = omega (arith, length-append new (drop (length marks) (replicate 8 no_marks)), tail_len, same_len, h.few);
      some = h.some;
      few = h.few;
      nothing = drop_at new (drop (length marks) (replicate 8 no_marks)) (length marks) same_len ∙ tail;
    }
