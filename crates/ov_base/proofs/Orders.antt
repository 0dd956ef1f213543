-- Orders and numbers: what stands before what, and that the lesser and the greater of two is one of them.
use Rattle.std.proofs.Common.{◌≡◌, ℕ, ◌⊎◌, true, false, refl, ap, arith}
use Rattle.std.specs.Cmp.{IsTotalOrder}
use Rattle.std.specs.Ordering.{is_lt}
use Rattle.std.specs.Prelude.{min, max}
use Rattle.std.specs.declared.cmp.Ordering.{Ordering}
use Rattle.std.specs.declared.cmp.Ordering.TheVariants.{Less, Equal, Greater}
use Rattle.std.proofs.lemmas.Cmp.{tied_itself}
use Rattle.std.proofs.lemmas.Grind.{common_steps}

-- only `Less` is less
pub less_from : (o : Ordering) → is_lt o ≡ true → o ≡ Less
less_from Less h = refl
less_from Equal h = absurd cc
less_from Greater h = absurd cc

-- what stands before another that stands before a third stands before that
pub before_trans : {K : Type 0} {R : K → K → Ordering} (o : IsTotalOrder R) (x y z : K) → is_lt (R x y) ≡ true → is_lt (R y z) ≡ true → is_lt (R x z) ≡ true
before_trans {R = R} o x y z a b = ap is_lt (o.trans x y z (less_from (R x y) a) (less_from (R y z) b))

-- nothing stands before itself
pub before_itself : {K : Type 0} {R : K → K → Ordering} (o : IsTotalOrder R) (x : K) → is_lt (R x x) ≡ false
before_itself o x = ap is_lt (tied_itself o x)

-- the lesser of two is one of them
pub min_either : (a b : ℕ) → (min a b ≡ a) ⊎ (min a b ≡ b)
min_either a b = grind (arith, common_steps)

-- the greater of two is one of them
pub max_either : (a b : ℕ) → (max a b ≡ a) ⊎ (max a b ≡ b)
max_either a b = grind (arith, common_steps)
