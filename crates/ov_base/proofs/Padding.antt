-- Lists of numbers above 0 are ordered as they are with zeros behind them, where those make them equally long.
use Rattle.std.proofs.Common.{◌≡◌, ℕ, zero, suc, ◌+◌, ◌<◌, List, [], ◌∷◌, ◌++◌, length, nat_cmp, refl, ap, arith, lt-ltb, le-ltb, ne_eqb}
use Rattle.std.specs.Prelude.{replicate}
use Rattle.std.specs.List.{AllByRecursion}
use Rattle.std.specs.Ordering.{ordering_then}
use Rattle.std.specs.Cmp.Lexicographic.{slice_cmp, nat_list_cmp_total}
use Rattle.std.proofs.lemmas.Cmp.{tied_itself}

pub padded_order : (xs ys : List ℕ) (a b : ℕ) → AllByRecursion (λ x. 0 < x) xs → AllByRecursion (λ y. 0 < y) ys → length xs + a ≡ length ys + b
    → slice_cmp nat_cmp (xs ++ replicate a 0) (ys ++ replicate b 0) ≡ slice_cmp nat_cmp xs ys
padded_order [] [] a b h k e = let same : a ≡ b = omega arith in rw same (tied_itself nat_list_cmp_total (replicate b 0))
padded_order [] (zero ∷ ys) a b h k e = absurd (omega (arith, k.0))
padded_order [] (suc y ∷ ys) zero b h k e = absurd (omega arith)
padded_order [] (suc y ∷ ys) (suc a) b h k e = rw (lt-ltb 0 (suc y) (omega arith)) refl
padded_order (zero ∷ xs) [] a b h k e = absurd (omega (arith, h.0))
padded_order (suc x ∷ xs) [] a zero h k e = absurd (omega arith)
padded_order (suc x ∷ xs) [] a (suc b) h k e = rw (le-ltb (suc x) 0 (omega arith), ne_eqb (suc x) 0 (λ same. absurd (omega arith))) refl
padded_order (x ∷ xs) (y ∷ ys) a b h k e = ap (ordering_then (nat_cmp x y)) (padded_order xs ys a b h.1 k.1 (omega arith))
