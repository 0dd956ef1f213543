-- The read keys of functors: how many they are, and which one stands at a place.
use Rattle.std.proofs.Common.{◌≡◌, ℕ, zero, suc, ◌+◌, ◌-◌, ◌*◌, ◌<◌, true, false, List, [], ◌∷◌, length, get_or, slice_get, take, drop, Some, refl, sym, ap, ◌∙◌, length-drop, length-take, arith}
use Rattle.std.proofs.lemmas.List.{drop_more}
use Rattle.ov_base.specs.declared.value.Value.{Value}
use Rattle.ov_base.specs.declared.value.Value.TheVariants.{Absent}
use Rattle.ov_base.specs.Key.{key_eq}
use Rattle.ov_functor.specs.declared.part.Move.{Move}
use Rattle.ov_functor.specs.Functor.{move_keys, reads, reads_own, input_at}
use Rattle.ov_functor.specs.Placeholder.{Placeholder}

-- each move has two keys
pub move_keys_length : (moves : List Move) → length (move_keys moves) ≡ 2 * length moves
move_keys_length [] = refl
move_keys_length (move ∷ moves) = omega (arith, move_keys_length moves)

-- the first key of a move stands at twice its place
pub from_at : (moves : List Move) (j place : ℕ) (move : Move) → place ≡ 2 * j → j < length moves → move ≡ get_or moves j move
    → slice_get (move_keys moves) place ≡ Some move.from
from_at [] j place move e lt at = absurd (omega arith)
from_at (one ∷ moves) zero zero move e lt at = ap (λ (m : Move). Some m.from) (sym at)
from_at (one ∷ moves) zero (suc place) move e lt at = absurd (omega arith)
from_at (one ∷ moves) (suc j) zero move e lt at = absurd (omega arith)
from_at (one ∷ moves) (suc j) (suc zero) move e lt at = absurd (omega arith)
from_at (one ∷ moves) (suc j) (suc (suc place)) move e lt at = from_at moves j place move (omega arith) (omega arith) at

-- the second key of a move stands just after its first
pub to_at : (moves : List Move) (j place : ℕ) (move : Move) → place ≡ 2 * j + 1 → j < length moves → move ≡ get_or moves j move
    → slice_get (move_keys moves) place ≡ Some move.to
to_at [] j place move e lt at = absurd (omega arith)
to_at (one ∷ moves) j zero move e lt at = absurd (omega arith)
to_at (one ∷ moves) zero (suc zero) move e lt at = ap (λ (m : Move). Some m.to) (sym at)
to_at (one ∷ moves) zero (suc (suc place)) move e lt at = absurd (omega arith)
to_at (one ∷ moves) (suc j) (suc zero) move e lt at = absurd (omega arith)
to_at (one ∷ moves) (suc j) (suc (suc place)) move e lt at = to_at moves j place move (omega arith) (omega arith) at

-- a functor that reads its own key reads one key more than those of its moves
pub reads_with_own : (functor : Placeholder) → reads_own functor.effect functor.moves ≡ true → length (reads functor) ≡ 2 * length functor.moves + 1
reads_with_own functor e = rw e (omega (arith, move_keys_length functor.moves))

-- any other reads the keys of its moves alone
pub reads_of_moves : (functor : Placeholder) → reads_own functor.effect functor.moves ≡ false → length (reads functor) ≡ 2 * length functor.moves
reads_of_moves functor e = rw e (move_keys_length functor.moves)

-- past the own key stand two inputs for each move
pub inputs_of_sides : (functor : Placeholder) (inputs : List Value) (moves : List Move)
    → reads_own functor.effect functor.moves ≡ true → length inputs ≡ length (reads functor) → moves ≡ functor.moves
    → length (take (length inputs - 1) (drop 1 inputs)) ≡ 2 * length moves
inputs_of_sides functor inputs moves own all same = simp (length-take, length-drop) (omega (arith, ap length same, reads_with_own functor own))

-- without the own key all inputs are those of the moves
pub inputs_of_moves : (functor : Placeholder) (inputs : List Value) (moves : List Move)
    → reads_own functor.effect functor.moves ≡ false → length inputs ≡ length (reads functor) → moves ≡ functor.moves
    → length inputs ≡ 2 * length moves
inputs_of_moves functor inputs moves own all same = omega (arith, ap length same, reads_of_moves functor own)

-- the input of a key that is none of the two of a move stands past the inputs of that move
pub input_at_next : (key : List ℕ) (moves : List Move) (inputs : List Value) (i : ℕ) (move : Move)
    → i < length moves → length inputs ≡ 2 * length moves → move ≡ get_or moves i move → key_eq move.from key ≡ false → key_eq move.to key ≡ false
    → input_at key (drop i moves) (drop (2 * i) inputs) ≡ input_at key (drop (i + 1) moves) (drop (2 * (i + 1)) inputs)
input_at_next key moves inputs i move lt all at away past =
    let here : drop i moves ≡ move ∷ drop (i + 1) moves = drop_more moves i move lt ∙ ap (λ (m : Move). m ∷ drop (i + 1) moves) (sym at) in
    let next : 2 * (i + 1) ≡ 2 * i + 1 + 1 = omega arith in
    rw (here, drop_more inputs (2 * i) Absent (omega arith), drop_more inputs (2 * i + 1) Absent (omega arith), away, past, next) refl
