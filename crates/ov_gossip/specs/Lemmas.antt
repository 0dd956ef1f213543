-- Lemmas that the code cites for the laws of its types, and the test of vectors. Each is proved, and nothing here has to be believed.
use Rattle.std.proofs.Common.{arith, take-append-drop, length-take-le}
use Rattle.std.specs.Cmp.{IsEquivalence}
use Rattle.std.specs.Cmp.Lexicographic.{pointwise, lists_equiv}
use Rattle.std.specs.Prelude.{◌≡◌, ℕ, ◌-◌, Bool, true, false, ◌⊎◌, List, ◌++◌, length, take, replicate}
use Rattle.ov_base.specs.Lemmas.{pointwise-exact, fails_or_same}
use Rattle.ov_gossip.specs.Marks.{no_marks}
use Rattle.ov_gossip.specs.Padded.{vector_room, IsPadded}
use Rattle.ov_gossip.specs.declared.marks.Marks.{Marks}
use Rattle.ov_gossip.specs.contracts.marks.MarksPartialEq.TheImpl.{ghosts}
use Rattle.ov_gossip.specs.contracts.marks.MarksEq.TheImpl.Laws.{laws-law}
use Rattle.ov_gossip.specs.contracts.marks.MarksPlain.TheImpl.Laws.{exact-law}

-- ---- the test of vectors, which holds of equal vectors alone

-- whether two vectors are the same
unfoldable pub vector_eq : List Marks → List Marks → Bool
vector_eq x y = pointwise ghosts.eq x y

pub vector_eq-equiv : IsEquivalence vector_eq
unfolding vector_eq
vector_eq-equiv = lists_equiv laws-law

pub vector_eq-exact : (x y : List Marks) → vector_eq x y ≡ true → x ≡ y
unfolding vector_eq
vector_eq-exact x y h = pointwise-exact ghosts.eq exact-law x y h

pub vector_eq-cases : (x y : List Marks) → (vector_eq x y ≡ false) ⊎ (x ≡ y)
vector_eq-cases x y = fails_or_same (vector_eq x y) (vector_eq-exact x y)

-- ---- a vector in its places, from what contracts see

pub padded_count : (marks : List Marks) (count : ℕ) → IsPadded marks count → length (take count marks) ≡ count
padded_count marks count h = length-take-le count marks (omega (arith, h.room, h.few))

pub padded_marks : (marks : List Marks) (count : ℕ) → IsPadded marks count → take count marks ++ replicate (vector_room - length (take count marks)) no_marks ≡ marks
padded_marks marks count h = rw (padded_count marks count h, ← h.nothing) (take-append-drop count marks)
