-- Executing whole transactions, one at a time, on a map from keys to values.
use Rattle.std.specs.Prelude.{ℕ, Bool, true, ◌&&◌, if◌then◌else◌, List, [], ◌∷◌, ℤ, int_le}
use Rattle.ov_base.specs.Key.{key_eq}
use Rattle.ov_base.specs.Amount.{sum_of, difference_of, least_of, greatest_of, fits_in}
use Rattle.ov_base.specs.Value.{or_zero}
use Rattle.ov_base.specs.declared.value.Value.{Value}
use Rattle.ov_base.specs.declared.value.Value.TheVariants.{Absent, Number}
use Rattle.ov_functor.specs.declared.effect.Effect.{Effect}
use Rattle.ov_functor.specs.declared.effect.Effect.TheVariants as effects
use Rattle.ov_functor.specs.declared.item.Shown.{Shown}
use Rattle.ov_functor.specs.declared.part.Move.{Move}
use Rattle.ov_functor.specs.declared.part.Part.{Part}
use Rattle.ov_functor.specs.declared.part.Part.TheVariants.{Put, Del, Add, Least, Greatest, Move as MovePart, Get}
use Rattle.ov_functor.specs.declared.reply.Reply.{Reply}
use Rattle.ov_functor.specs.declared.reply.Reply.TheVariants.{Done, Aborted}

-- ---- maps

-- a map from keys to values
abbrev pub Map : Type 0
Map = List ℕ → Value

-- the map in which each key is absent
abbrev pub empty : Map
empty key = Absent

-- the map in which this key has that value, and each other key what it had
abbrev pub set : List ℕ → Value → Map → Map
set key value map other = if key_eq key other then value else map other

-- ---- values

-- the lesser of the value and this amount, which an absent value gives
abbrev pub least_value : Value → ℤ → ℤ
least_value Absent amount = amount
least_value (Number old) amount = least_of old amount

-- the greater of the value and this amount, which an absent value gives
abbrev pub greatest_value : Value → ℤ → ℤ
greatest_value Absent amount = amount
greatest_value (Number old) amount = greatest_of old amount

-- what an effect makes of the previous value of its key; where a move holds, its two sides are the plain difference and sum
unfoldable pub changed : Effect → Value → Value
changed (effects.Put amount) previous = Number amount
changed effects.Del previous = Absent
changed (effects.Add amount) previous = Number (sum_of (or_zero previous) amount)
changed (effects.Least amount) previous = Number (least_value previous amount)
changed (effects.Greatest amount) previous = Number (greatest_value previous amount)
changed (effects.Out amount) previous = Number (difference_of (or_zero previous) amount)
changed (effects.In amount) previous = Number (sum_of (or_zero previous) amount)

-- ---- moves

-- whether a move of the amount holds between keys of these values
unfoldable pub covers : ℤ → Value → Value → Bool
covers amount from to = int_le amount (or_zero from) && fits_in (or_zero to) amount

-- the moves of a transaction, in their order
abbrev pub moves_of : List Part → List Move
moves_of [] = []
moves_of (MovePart from to amount ∷ others) = record { from = from; to = to; amount = amount } ∷ moves_of others
moves_of (part ∷ others) = moves_of others

-- whether all these moves hold on the map
abbrev pub hold : Map → List Move → Bool
hold map [] = true
hold map (move ∷ moves) = covers move.amount (map move.from) (map move.to) && hold map moves

-- ---- whole transactions

-- what a part writes is set from the old map
abbrev pub written : Map → Part → Map → Map
written old (Put key amount) map = set key (changed (effects.Put amount) (old key)) map
written old (Del key) map = set key (changed effects.Del (old key)) map
written old (Add key amount) map = set key (changed (effects.Add amount) (old key)) map
written old (Least key amount) map = set key (changed (effects.Least amount) (old key)) map
written old (Greatest key amount) map = set key (changed (effects.Greatest amount) (old key)) map
written old (MovePart from to amount) map = set from (changed (effects.Out amount) (old from)) (set to (changed (effects.In amount) (old to)) map)
written old (Get key) map = map

-- the old map, with all that the parts write
abbrev pub all_written : Map → List Part → Map
all_written old [] = old
all_written old (part ∷ others) = written old part (all_written old others)

-- the map after a whole transaction: where a move does not hold, it stays
abbrev pub exec : Map → List Part → Map
exec map transaction = if hold map (moves_of transaction) then all_written map transaction else map

-- what the gets of a transaction show of the map just before it, in the order of the parts
abbrev pub got : Map → List Part → List Shown
got map [] = []
got map (Get key ∷ others) = record { key = key; value = map key } ∷ got map others
got map (part ∷ others) = got map others

-- the reply of a transaction at this version, executed on the map
abbrev pub reply_of : Map → ℕ → List Part → Reply
reply_of map version transaction = if hold map (moves_of transaction) then Done version (got map transaction) else Aborted version (got map transaction)
