-- The sums of shown values.
use Rattle.std.proofs.Common.{◌≡◌, ℕ, ◌+◌, ◌<◌, ℤ, pos, negsuc, ◌+ℤ◌, ◌≤ℤ◌, neg_ℤ, List, [], ◌∷◌, ◌++◌, length, get_or, take, sym, ap, ◌∙◌, arith}
use Rattle.std.proofs.Math.IntN.{+ℤ_assoc, +ℤ_idl, +ℤ_idr}
use Rattle.std.proofs.lemmas.Int.{ints}
use Rattle.std.proofs.lemmas.List.{take_more}
use Rattle.ov_base.specs.Amount.{IsAmount, most}
use Rattle.ov_base.specs.Value.{or_zero}
use Rattle.ov_functor.specs.declared.item.Shown.{Shown}
use Rattle.ov_report.specs.Summary.{sum_of}

-- the sum with one value more at the end
sum_after : (list : List Shown) (shown : Shown) → sum_of (list ++ shown ∷ []) ≡ sum_of list +ℤ or_zero shown.value
sum_after [] shown = +ℤ_idr (or_zero shown.value) ∙ sym (+ℤ_idl (or_zero shown.value))
sum_after (first ∷ list) shown = ap (λ z. or_zero first.value +ℤ z) (sum_after list shown) ∙ sym (+ℤ_assoc (or_zero first.value) (sum_of list) (or_zero shown.value))

-- the sum of one value more
pub sum_more : (list : List Shown) (i : ℕ) (d : Shown) → i < length list → sum_of (take (i + 1) list) ≡ sum_of (take i list) +ℤ or_zero (get_or list i d).value
sum_more list i d less = ap sum_of (take_more list i d less) ∙ sum_after (take i list) (get_or list i d)

-- amounts are not below the least
pub amount_low : (z : ℤ) → IsAmount z → neg_ℤ (pos most) ≤ℤ z
amount_low (pos n) is = omega arith
amount_low (negsuc n) is = omega (arith, ints)

-- amounts are not above the greatest
pub amount_high : (z : ℤ) → IsAmount z → z ≤ℤ pos most
amount_high (pos n) is = omega (arith, ints)
amount_high (negsuc n) is = omega (arith, ints)
