-- The words of values.
use Rattle.std.specs.Prelude.{ℕ, ℤ, pos, List, Option, Some, codes, if◌then◌else◌}
use Rattle.std.specs.Str.{bytes_eq}
use Rattle.ov_base.specs.Word.{◌>>=◌}
use Rattle.ov_base.specs.Amount.{IsAmount, amount_text, amount_of}
use Rattle.ov_base.specs.declared.value.Value.{Value}
use Rattle.ov_base.specs.declared.value.Value.TheVariants.{Absent, Number}

-- the values of the program: absent, or an amount in its range
abbrev pub IsValue : Value → Type 0
IsValue Absent = Unit {0}
IsValue (Number amount) = IsAmount amount

-- the amount of a value, absent counted as 0
abbrev pub or_zero : Value → ℤ
or_zero Absent = pos 0
or_zero (Number amount) = amount

-- the one spelling: `absent`, or the amount
abbrev pub value_text : Value → List ℕ
value_text Absent = codes "absent"
value_text (Number amount) = amount_text amount

abbrev pub number_value : List ℕ → Option Value
number_value bytes = amount_of bytes >>= λ amount. Some (Number amount)

-- reading `absent` or an amount
unfoldable pub value_of : List ℕ → Option Value
value_of bytes = if bytes_eq bytes (codes "absent") then Some Absent else number_value bytes
