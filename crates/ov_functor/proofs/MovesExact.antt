-- Where a move holds, its two sides are the plain difference and the plain sum.
use Rattle.std.proofs.Common.{◌≡◌, true, arith, ap}
use Rattle.std.specs.Prelude.{ℤ, pos, negsuc, ◌≤ℤ◌, ◌+ℤ◌, ◌-ℤ◌, neg_ℤ}
use Rattle.std.proofs.lemmas.Grind.{common_steps}
use Rattle.std.proofs.lemmas.Int.{ints}
use Rattle.ov_base.specs.Amount.{most, bounded}
use Rattle.ov_base.specs.Value.{IsValue, or_zero}
use Rattle.ov_base.specs.declared.value.Value.{Value}
use Rattle.ov_base.specs.declared.value.Value.TheVariants.{Absent, Number}
use Rattle.ov_functor.specs.declared.effect.Effect.TheVariants.{Out, In}
use Rattle.ov_functor.specs.Execution.{changed, covers}

-- a number in the range is the nearest amount
pub bounded-in-range : (z : ℤ) → neg_ℤ (pos most) ≤ℤ z → z ≤ℤ pos most → bounded z ≡ z
bounded-in-range z low high = grind (arith, common_steps, ints)

-- what a value counts as is in the range, where the value is
pub or_zero-in-range : (value : Value) → IsValue value → (neg_ℤ (pos most) ≤ℤ or_zero value) × (or_zero value ≤ℤ pos most)
or_zero-in-range Absent is = (omega (arith, ints), omega (arith, ints))
or_zero-in-range (Number (pos n)) is = (omega (arith, ints), omega (arith, ints))
or_zero-in-range (Number (negsuc n)) is = (omega (arith, ints), omega (arith, ints))

-- where a move holds, the one key has its amount, and the plain sum at the other is at most the greatest amount
pub covers-is-room : (amount : ℤ) (from to : Value) → covers amount from to ≡ true → (amount ≤ℤ or_zero from) × ((or_zero to +ℤ amount) ≤ℤ pos most)
unfolding covers
covers-is-room amount from to holds = (grind (arith, common_steps, ints), grind (arith, common_steps, ints))

-- where a move holds, the plain difference is what its one key gets
pub out-is-difference : (amount : ℤ) (from to : Value) → covers amount from to ≡ true → pos 1 ≤ℤ amount → IsValue from → changed (Out amount) from ≡ Number (or_zero from -ℤ amount)
unfolding changed
out-is-difference amount from to holds some from_is =
    let room = covers-is-room amount from to holds in
    let range = or_zero-in-range from from_is in
    ap Number (bounded-in-range (or_zero from -ℤ amount) (omega (arith, ints)) (omega (arith, ints)))

-- where a move holds, the plain sum is what its other key gets
pub in-is-sum : (amount : ℤ) (from to : Value) → covers amount from to ≡ true → pos 1 ≤ℤ amount → IsValue to → changed (In amount) to ≡ Number (or_zero to +ℤ amount)
unfolding changed
in-is-sum amount from to holds some to_is =
    let room = covers-is-room amount from to holds in
    let range = or_zero-in-range to to_is in
    ap Number (bounded-in-range (or_zero to +ℤ amount) (omega (arith, ints)) (omega (arith, ints)))
