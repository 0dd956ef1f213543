-- The form of functors.
use Rattle.std.specs.Prelude.{ℕ, ℤ, pos, int_le, Bool, true, not, ◌&&◌, ◌||◌, nat_le, List, [], ◌∷◌, length, Result, Ok, Err, if◌then◌else◌}
use Rattle.std.specs.List.{list_all, list_any}
use Rattle.ov_base.specs.Key.{key_eq}
use Rattle.ov_base.specs.Amount.{amount_eq}
use Rattle.ov_functor.specs.Placeholder.{Placeholder}
use Rattle.ov_functor.specs.declared.effect.Effect.{Effect}
use Rattle.ov_functor.specs.declared.effect.Effect.TheVariants.{Out, In}
use Rattle.ov_functor.specs.declared.functor.FunctorError.{FunctorError}
use Rattle.ov_functor.specs.declared.functor.FunctorError.TheVariants.{Form}
use Rattle.ov_functor.specs.declared.part.Move.{Move}

-- the most moves of a functor
abbrev pub most_moves : ℕ
most_moves = 8

-- whether the key is one of the two of a move
abbrev pub is_side : List ℕ → Move → Bool
is_side key move = key_eq move.from key || key_eq move.to key

-- whether the key stands in a move
abbrev pub stands_in : List ℕ → List Move → Bool
stands_in key moves = list_any (is_side key) moves

-- whether the keys of the moves are distinct
abbrev pub are_apart : List Move → Bool
are_apart [] = true
are_apart (move ∷ moves) = not (key_eq move.from move.to) && (not (stands_in move.from moves) && (not (stands_in move.to moves) && are_apart moves))

-- an amount of at least 1
abbrev pub moves_some : Move → Bool
moves_some move = int_le (pos 1) move.amount

-- a move of this amount from the key
abbrev pub goes_from : List ℕ → ℤ → Move → Bool
goes_from key amount move = key_eq move.from key && amount_eq move.amount amount

-- a move of this amount to the key
abbrev pub goes_to : List ℕ → ℤ → Move → Bool
goes_to key amount move = key_eq move.to key && amount_eq move.amount amount

-- an effect that is one side of a move is that of one of these; any other leaves the key out of them, and room for its own read
abbrev pub effect_form : List ℕ → Effect → List Move → Bool
effect_form key (Out amount) moves = list_any (goes_from key amount) moves
effect_form key (In amount) moves = list_any (goes_to key amount) moves
effect_form key effect moves = not (stands_in key moves) && nat_le (length moves) 7

-- whether this is a functor
abbrev pub is_functor : Placeholder → Bool
is_functor functor = nat_le (length functor.moves) most_moves && (are_apart functor.moves && (list_all moves_some functor.moves && effect_form functor.key functor.effect functor.moves))

-- the functor, or that it is off the form
abbrev pub formed : Placeholder → Result Placeholder FunctorError
formed functor = if is_functor functor then Ok functor else Err Form
