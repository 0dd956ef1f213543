-- The functors of a transaction, the keys that they read, and their values.
use Rattle.std.specs.Prelude.{ℕ, Bool, true, false, ◌&&◌, List, [], ◌∷◌, Option, Some, None, if◌then◌else◌}
use Rattle.ov_base.specs.Key.{key_eq}
use Rattle.ov_base.specs.declared.value.Value.{Value}
use Rattle.ov_base.specs.declared.value.Value.TheVariants.{Absent}
use Rattle.ov_functor.specs.Execution.{changed, covers, moves_of}
use Rattle.ov_functor.specs.Placeholder.{Placeholder}
use Rattle.ov_functor.specs.declared.effect.Effect.{Effect}
use Rattle.ov_functor.specs.declared.effect.Effect.TheVariants as effects
use Rattle.ov_functor.specs.declared.part.Move.{Move}
use Rattle.ov_functor.specs.declared.part.Part.{Part}
use Rattle.ov_functor.specs.declared.part.Part.TheVariants as parts

-- ---- the functor of a transaction

-- this effect on the key, where it is this key
abbrev pub effect_at : List ℕ → List ℕ → Effect → Option Effect
effect_at key written effect = if key_eq written key then Some effect else None

-- this effect, or else that one
abbrev pub or_else : Option Effect → Option Effect → Option Effect
or_else None that = that
or_else (Some this) that = Some this

-- the effect of a part on a key, where it writes the key
abbrev pub effect_in : List ℕ → Part → Option Effect
effect_in key (parts.Put written amount) = effect_at key written (effects.Put amount)
effect_in key (parts.Del written) = effect_at key written effects.Del
effect_in key (parts.Add written amount) = effect_at key written (effects.Add amount)
effect_in key (parts.Least written amount) = effect_at key written (effects.Least amount)
effect_in key (parts.Greatest written amount) = effect_at key written (effects.Greatest amount)
effect_in key (parts.Move from to amount) = or_else (effect_at key from (effects.Out amount)) (effect_at key to (effects.In amount))
effect_in key (parts.Get got) = None

-- the effect of the first part that writes the key
abbrev pub effect_of : List ℕ → List Part → Option Effect
effect_of key [] = None
effect_of key (part ∷ others) = or_else (effect_in key part) (effect_of key others)

abbrev pub functor_by : List ℕ → Option Effect → List Move → Option Placeholder
functor_by key None moves = None
functor_by key (Some effect) moves = Some (record { key = key; effect = effect; moves = moves })

-- the functor of a transaction for a key: the key, its effect and all moves of the transaction, where the key is written
abbrev pub functor_of : List Part → List ℕ → Option Placeholder
functor_of transaction key = functor_by key (effect_of key transaction) (moves_of transaction)

-- ---- the keys that it reads

-- the two keys of each move, in order
abbrev pub move_keys : List Move → List (List ℕ)
move_keys [] = []
move_keys (move ∷ moves) = move.from ∷ move.to ∷ move_keys moves

-- whether the own key is read first: not where the effect is one side of a move, since it then stands among the moves, and not where a put or a del has no move
abbrev pub reads_own : Effect → List Move → Bool
reads_own (effects.Put amount) [] = false
reads_own effects.Del [] = false
reads_own (effects.Out amount) moves = false
reads_own (effects.In amount) moves = false
reads_own effect moves = true

-- the keys whose previous values a functor is applied to, in order
abbrev pub reads : Placeholder → List (List ℕ)
reads functor = if reads_own functor.effect functor.moves then functor.key ∷ move_keys functor.moves else move_keys functor.moves

-- ---- its value

-- whether the moves hold on the inputs, two for each
abbrev pub inputs_hold : List Move → List Value → Bool
inputs_hold [] inputs = true
inputs_hold (move ∷ moves) (from ∷ to ∷ inputs) = covers move.amount from to && inputs_hold moves inputs
inputs_hold (move ∷ moves) inputs = false

-- the input of a key among those of the moves
abbrev pub input_at : List ℕ → List Move → List Value → Value
input_at key (move ∷ moves) (from ∷ to ∷ inputs) = if key_eq move.from key then from else (if key_eq move.to key then to else input_at key moves inputs)
input_at key moves inputs = Absent

-- the effect on the previous value where the moves hold, else that value
abbrev pub applied : Effect → Bool → Value → Value
applied effect holds previous = if holds then changed effect previous else previous

abbrev pub apply_own : Placeholder → List Value → Value
apply_own functor [] = Absent
apply_own functor (previous ∷ inputs) = applied functor.effect (inputs_hold functor.moves inputs) previous

-- the value of a functor on the previous values of its read keys
abbrev pub apply : Placeholder → List Value → Value
apply functor inputs = if reads_own functor.effect functor.moves then apply_own functor inputs else applied functor.effect (inputs_hold functor.moves inputs) (input_at functor.key functor.moves inputs)

-- whether all moves hold on the inputs of the read keys
abbrev pub hold_own : Placeholder → List Value → Bool
hold_own functor [] = false
hold_own functor (previous ∷ inputs) = inputs_hold functor.moves inputs

abbrev pub functor_holds : Placeholder → List Value → Bool
functor_holds functor inputs = if reads_own functor.effect functor.moves then hold_own functor inputs else inputs_hold functor.moves inputs
