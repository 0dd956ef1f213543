-- The codes of values.
use Rattle.std.proofs.Common.{◌≡◌, ℕ, zero, suc, pos, negsuc, ◌+◌, ◌*◌, ◌<◌, ◌≤◌, ◌≢◌, get_or, replicate, refl, arith}
use Rattle.ov_base.specs.Amount.{most}
use Rattle.ov_base.specs.declared.value.Value.{Value}
use Rattle.ov_base.specs.declared.value.Value.TheVariants.{Absent, Number}
use Rattle.ov_cells.specs.Rules.{IsCodeOf}

-- no code is 0
pub code_some : (word : ℕ) (value : Value) → IsCodeOf word value → word ≢ 0
code_some word Absent h = let e = h.1 in λ z. omega arith
code_some word (Number (pos n)) h = let e = h.1 in λ z. omega arith
code_some word (Number (negsuc n)) h = let e = h.1 in let f = h.0 in λ z. omega arith

-- the greatest code
pub code_most : (word : ℕ) (value : Value) → IsCodeOf word value → word ≤ 2 * most + 2
code_most word Absent h = let e = h.1 in omega arith
code_most word (Number (pos n)) h = let e = h.1 in let f : n ≤ most = h.0 in omega arith
code_most word (Number (negsuc n)) h = let e = h.1 in let f : n < most = h.0 in omega arith

-- words that are all 0
pub zeros : (count at : ℕ) → let none : ℕ = 0 in get_or (replicate count none) at none ≡ none
zeros zero at = refl
zeros (suc count) zero = refl
zeros (suc count) (suc at) = zeros count at
