-- Small sets of numbers, as the bits of one number.
use Rattle.std.specs.Prelude.{ℕ, ◌*◌, ◌%◌, ◌^◌, ◌==◌, Bool, bit_or}
use Rattle.std.specs.Int.{bit_at}
use Rattle.ov_base.specs.declared.small.SmallSet.{SmallSet}

abbrev pub empty_set : SmallSet
empty_set = record { mask = 0 }

-- whether a number below 64 is in the set
abbrev pub has : SmallSet → ℕ → Bool
has set number = bit_at set.mask number == 1

-- the set with one more number below 64
abbrev pub with_number : ℕ → SmallSet → SmallSet
with_number number set = record { mask = bit_or set.mask (1 * 2 ^ number % 2 ^ 64) }
