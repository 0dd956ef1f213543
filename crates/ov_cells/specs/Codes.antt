-- The codes of values in the words of cells.
use Rattle.std.specs.Prelude.{ℕ, pos, negsuc, ◌+◌, ◌-◌}
use Rattle.ov_base.specs.Amount.{most}
use Rattle.ov_base.specs.declared.value.Value.{Value}
use Rattle.ov_base.specs.declared.value.Value.TheVariants.{Absent, Number}

-- the code of a value: 1 for absent, and n + 10^18 + 2 for the number n, where `negsuc n` is the number -(n + 1); 0 is no value's code
abbrev pub code : Value → ℕ
code Absent = 1
code (Number (pos n)) = n + most + 2
code (Number (negsuc n)) = most + 1 - n
