-- Values in form: executing transactions in form keeps each value of a map in form, and so do the replies.
use Rattle.std.proofs.Common.{◌≡◌, ℕ, ℤ, pos, negsuc, zero, suc, ◌≤◌, Bool, true, false, cond, ltb, Option, Some, None, List, [], ◌∷◌, length, refl, arith}
use Rattle.std.specs.Prelude.{◌+ℤ◌, ◌-ℤ◌, int_lt, if◌then◌else◌}
use Rattle.std.specs.List.{AllByRecursion}
use Rattle.std.proofs.lemmas.Bool.{ltb-false}
use Rattle.ov_base.specs.Amount.{IsAmount, bounded, most}
use Rattle.ov_base.specs.Key.{IsKey, key_eq}
use Rattle.ov_base.specs.Value.{IsValue, or_zero}
use Rattle.ov_base.specs.declared.value.Value.{Value}
use Rattle.ov_base.specs.declared.value.Value.TheVariants.{Absent, Number}
use Rattle.ov_functor.specs.Execution.{Map, set, least_value, greatest_value, changed, moves_of, hold, written, all_written, exec, got}
use Rattle.ov_functor.specs.ReplyWords.{IsShown}
use Rattle.ov_functor.specs.Serial.{executed_at, serial}
use Rattle.ov_functor.specs.Words.{IsPart}
use Rattle.ov_functor.specs.declared.effect.Effect.{Effect}
use Rattle.ov_functor.specs.declared.effect.Effect.TheVariants as effects
use Rattle.ov_functor.specs.declared.part.Part.{Part}
use Rattle.ov_functor.specs.declared.part.Part.TheVariants.{Put, Del, Add, Least, Greatest, Move, Get}
use Rattle.ov_event.specs.ItemWords.{IsEffect}
use Rattle.ov_history.specs.Settlers.{shown}

-- ---- amounts

-- the nearest amount is one
bounded_amount : (z : ℤ) → IsAmount (bounded z)
bounded_amount (pos n) = by (ltb most n) refl
  where
    by : (b : Bool) → ltb most n ≡ b → IsAmount (cond b (pos most) (pos n))
    by true is = omega arith
    by false is = ltb-false most n is
bounded_amount (negsuc n) = by (ltb 999999999999999999 n) refl
  where
    by : (b : Bool) → ltb 999999999999999999 n ≡ b → IsAmount (cond b (negsuc 999999999999999999) (negsuc n))
    by true is = omega arith
    by false is = let low : n ≤ 999999999999999999 = ltb-false 999999999999999999 n is in omega (arith, low)

-- one of two amounts is one
one_amount : (b : Bool) (x y : ℤ) → IsAmount x → IsAmount y → IsAmount (cond b x y)
one_amount true x y left right = left
one_amount false x y left right = right

-- the lesser of a value and an amount is one
least_amount : (value : Value) (amount : ℤ) → IsValue value → IsAmount amount → IsAmount (least_value value amount)
least_amount Absent amount old new = new
least_amount (Number x) amount old new = one_amount (int_lt x amount) x amount old new

-- the greater of a value and an amount is one
greatest_amount : (value : Value) (amount : ℤ) → IsValue value → IsAmount amount → IsAmount (greatest_value value amount)
greatest_amount Absent amount old new = new
greatest_amount (Number x) amount old new = one_amount (int_lt x amount) amount x new old

-- an effect in form makes a value in form of one
changed_value : (effect : Effect) (previous : Value) → IsEffect effect → IsValue previous → IsValue (changed effect previous)
unfolding changed
changed_value (effects.Put amount) previous form old = form
changed_value effects.Del previous form old = tt
changed_value (effects.Add amount) previous form old = bounded_amount (or_zero previous +ℤ amount)
changed_value (effects.Least amount) previous form old = least_amount previous amount old form
changed_value (effects.Greatest amount) previous form old = greatest_amount previous amount old form
changed_value (effects.Out amount) previous form old = bounded_amount (or_zero previous -ℤ amount)
changed_value (effects.In amount) previous form old = bounded_amount (or_zero previous +ℤ amount)

-- ---- maps

-- each value of the map is in form
abbrev pub AreValues : Map → Type 0
AreValues map = (key : List ℕ) → IsValue (map key)

-- one value more
set_values : (key : List ℕ) (value : Value) (map : Map) → IsValue value → AreValues map → AreValues (set key value map)
set_values key value map new old other = by (key_eq key other)
  where
    by : (b : Bool) → IsValue (if b then value else map other)
    by true = new
    by false = old other

-- what a part writes
written_values : (old map : Map) (part : Part) → IsPart part → AreValues old → AreValues map → AreValues (written old part map)
written_values old map (Put key amount) form before values = set_values key _ map (changed_value (effects.Put amount) (old key) form.1 (before key)) values
written_values old map (Del key) form before values = set_values key _ map (changed_value effects.Del (old key) tt (before key)) values
written_values old map (Add key amount) form before values = set_values key _ map (changed_value (effects.Add amount) (old key) form.1 (before key)) values
written_values old map (Least key amount) form before values = set_values key _ map (changed_value (effects.Least amount) (old key) form.1 (before key)) values
written_values old map (Greatest key amount) form before values = set_values key _ map (changed_value (effects.Greatest amount) (old key) form.1 (before key)) values
written_values old map (Move from to amount) form before values =
    set_values from _ _ (changed_value (effects.Out amount) (old from) form.2 (before from)) (set_values to _ map (changed_value (effects.In amount) (old to) form.2 (before to)) values)
written_values old map (Get key) form before values = values

-- what all parts write
all_written_values : (old : Map) (transaction : List Part) → AllByRecursion IsPart transaction → AreValues old → AreValues (all_written old transaction)
all_written_values old [] each values = values
all_written_values old (part ∷ others) each values = written_values old (all_written old others) part each.0 values (all_written_values old others each.1 values)

-- a transaction in form keeps values in form
exec_values : (map : Map) (transaction : List Part) → AllByRecursion IsPart transaction → AreValues map → AreValues (exec map transaction)
exec_values map transaction each values key = by (hold map (moves_of transaction))
  where
    by : (b : Bool) → IsValue ((if b then all_written map transaction else map) key)
    by true = all_written_values map transaction each values key
    by false = values key

-- the serial map of transactions in form has values in form
pub serial_values : (begun : ℕ → Option (List Part)) → ((version : ℕ) (transaction : List Part) → begun version ≡ Some transaction → AllByRecursion IsPart transaction)
    → (n : ℕ) → AreValues (serial begun n)
serial_values begun form zero key = tt
serial_values begun form (suc version) key = by (begun version) refl (serial_values begun form version)
  where
    by : (o : Option (List Part)) → begun version ≡ o → AreValues (serial begun version) → IsValue (executed_at o (serial begun version) key)
    by None is values = values key
    by (Some transaction) is values = exec_values (serial begun version) transaction (form version transaction is) values key

-- ---- what replies show

-- what a transaction in form gets is in form
pub got_shown : (map : Map) (transaction : List Part) → AllByRecursion IsPart transaction → AreValues map → AllByRecursion IsShown (got map transaction)
got_shown map [] each values = tt
got_shown map (Get key ∷ others) each values = ((each.0, values key), got_shown map others each.1 values)
got_shown map (part ∷ others) each values = got_shown map others each.1 values

-- a transaction gets no more keys than it has parts
pub got_few : (map : Map) (transaction : List Part) → length (got map transaction) ≤ length transaction
got_few map [] = omega arith
got_few map (Get key ∷ others) = omega (arith, got_few map others)
got_few map (part ∷ others) = omega (arith, got_few map others)

-- the values of keys in form are shown in form
pub keys_shown : (map : Map) (keys : List (List ℕ)) → AllByRecursion IsKey keys → AreValues map → AllByRecursion IsShown (shown map keys)
keys_shown map [] each values = tt
keys_shown map (key ∷ keys) each values = ((each.0, values key), keys_shown map keys each.1 values)

-- as many keys are shown as there are
pub shown_count : (map : Map) (keys : List (List ℕ)) → length (shown map keys) ≡ length keys
shown_count map [] = refl
shown_count map (key ∷ keys) = omega (arith, shown_count map keys)
