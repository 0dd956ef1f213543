-- What the values just below a number are.
use Rattle.std.proofs.Common.{◌≡◌, ℕ, ◌≤◌, ◌<◌, Bool, true, false, ◌&&◌, Some, None, Option, List, [], ◌∷◌, ◌++◌, refl, sym, ◌∙◌, ap, subst, arith, inl, inr, ◌⊎◌}
use Rattle.std.specs.Prelude.{if◌then◌else◌, nat_lt}
use Rattle.std.proofs.lemmas.Grind.{common_steps}
use Rattle.ov_base.specs.Key.{key_eq}
use Rattle.ov_base.specs.Lemmas.{key_eq-exact}
use Rattle.ov_base.proofs.Keys.{key_eq-self}
use Rattle.ov_functor.specs.declared.item.Valued.{Valued}
use Rattle.ov_functor.specs.Values.{later, latest}
use Rattle.ov_functor.specs.Windows.{Among}

-- ---- lists that have a value

-- the front of a list is in the list
pub among-front : (value : Valued) (front back : List Valued) → Among value front → Among value (front ++ back)
among-front value [] back among = absurd among
among-front value (first ∷ front) back (inl is) = inl is
among-front value (first ∷ front) back (inr rest) = inr (among-front value front back rest)

-- the back of a list is in the list
pub among-back : (value : Valued) (front back : List Valued) → Among value back → Among value (front ++ back)
among-back value [] back among = among
among-back value (first ∷ front) back among = inr (among-back value front back among)

-- what is in a list is in its front or in its back
pub among-either : (value : Valued) (front back : List Valued) → Among value (front ++ back) → Among value front ⊎ Among value back
among-either value [] back among = inr among
among-either value (first ∷ front) back (inl is) = inl (inl is)
among-either value (first ∷ front) back (inr rest) = by (among-either value front back rest)
  where
    by : Among value front ⊎ Among value back → Among value (first ∷ front) ⊎ Among value back
    by (inl among) = inl (inr among)
    by (inr among) = inr among

-- ---- what `latest` finds

-- The value is one of the key at a version below a number.
pub record Under (key : List ℕ) (below : ℕ) (value : Valued) : Type 0 where
  pub key_is : value.key ≡ key
  pub less : value.version < below

-- Of the values of the key below a number, this one has the greatest version.
pub record IsBest (key : List ℕ) (below : ℕ) (values : List Valued) (value : Valued) : Type 0 where
  pub within : Among value values
  pub fits : Under key below value
  pub most : (other : Valued) → Among other values → Under key below other → other.version ≤ value.version

-- of the values of the key below a number, this one has the greatest version, or there is none
abbrev pub IsLatest : List ℕ → ℕ → List Valued → Option Valued → Type 0
IsLatest key below values None = (other : Valued) → Among other values → Under key below other → ⊥
IsLatest key below values (Some value) = IsBest key below values value

-- `latest` finds the value of the greatest version, where there is one
pub latest-is-latest : (key : List ℕ) (below : ℕ) (values : List Valued) → IsLatest key below values (latest key below values)
latest-is-latest key below [] = λ other among fits. among
latest-is-latest key below (value ∷ values) = by (key_eq value.key key) (nat_lt value.version below) refl refl (latest key below values) (latest-is-latest key below values)
  where
    skip : (Under key below value → ⊥) → (found : Option Valued) → IsLatest key below values found → IsLatest key below (value ∷ values) found
    skip out None none = λ other among under. old other among under
      where
        old : (other : Valued) → (other ≡ value) ⊎ Among other values → Under key below other → ⊥
        old other (inl is) under = out (subst (λ one. Under key below one) is under)
        old other (inr among) under = none other among under
    skip out (Some best) is_best = record { within = inr is_best.within; fits = is_best.fits; most = old }
      where
        old : (other : Valued) → (other ≡ value) ⊎ Among other values → Under key below other → other.version ≤ best.version
        old other (inl is) under = absurd (out (subst (λ one. Under key below one) is under))
        old other (inr among) under = is_best.most other among under

    take_it : Under key below value → (found : Option Valued) → IsLatest key below values found → IsLatest key below (value ∷ values) (later value found)
    take_it in_it None none = record { within = inl refl; fits = in_it; most = old }
      where
        old : (other : Valued) → (other ≡ value) ⊎ Among other values → Under key below other → other.version ≤ value.version
        old other (inl is) under = let same : other.version ≡ value.version = ap (λ one. one.version) is in omega arith
        old other (inr among) under = absurd (none other among under)
    take_it in_it (Some best) is_best = of (nat_lt value.version best.version) refl
      where
        old : (most : ℕ) → value.version ≤ most → best.version ≤ most → (other : Valued) → (other ≡ value) ⊎ Among other values → Under key below other → other.version ≤ most
        old most here there other (inl is) under = let same : other.version ≡ value.version = ap (λ one. one.version) is in omega arith
        old most here there other (inr among) under = let less = is_best.most other among under in omega arith

        of : (less : Bool) → nat_lt value.version best.version ≡ less → IsLatest key below (value ∷ values) (if less then Some best else Some value)
        of true is = record { within = inr is_best.within; fits = is_best.fits; most = old best.version (grind (arith, common_steps)) (omega arith) }
        of false is = record { within = inl refl; fits = in_it; most = old value.version (omega arith) (grind (arith, common_steps)) }

    by : (same less : Bool) → key_eq value.key key ≡ same → nat_lt value.version below ≡ less → (found : Option Valued) → IsLatest key below values found →
        IsLatest key below (value ∷ values) (if same && less then later value found else found)
    by true true same less found is = take_it (record { key_is = key_eq-exact value.key key same; less = grind (arith, common_steps) }) found is
    by true false same less found is = skip (λ under. let low = under.less in grind (arith, common_steps)) found is
    by false any same less found is = skip (λ under. let key_is = under.key_is in let self = key_eq-self key in grind (arith, common_steps)) found is

-- where no version and key stands for two values, lists that have the same values have the same latest ones
pub latest-of-same : (key : List ℕ) (below : ℕ) (these those : List Valued) →
    ((value : Valued) → Among value these → Among value those) → ((value : Valued) → Among value those → Among value these) →
    ((one other : Valued) → Among one those → Among other those → one.version ≡ other.version → one.key ≡ other.key → one ≡ other) → latest key below these ≡ latest key below those
latest-of-same key below these those to back alone = by (latest key below these) (latest key below those) (latest-is-latest key below these) (latest-is-latest key below those)
  where
    by : (one other : Option Valued) → IsLatest key below these one → IsLatest key below those other → one ≡ other
    by None None here there = refl
    by None (Some other) here there = absurd (here other (back other there.within) there.fits)
    by (Some one) None here there = absurd (there one (to one here.within) here.fits)
    by (Some one) (Some other) here there =
        let le = there.most one (to one here.within) here.fits in
        let ge = here.most other (back other there.within) there.fits in
        ap Some (alone one other (to one here.within) there.within (omega arith) (here.fits.key_is ∙ sym there.fits.key_is))

-- values in front of two lists that have the same latest value leave that so
pub latest-behind-same : (key : List ℕ) (below : ℕ) (front these those : List Valued) → latest key below these ≡ latest key below those →
    latest key below (front ++ these) ≡ latest key below (front ++ those)
latest-behind-same key below [] these those same = same
latest-behind-same key below (value ∷ front) these those same =
    ap (λ found. if key_eq value.key key && nat_lt value.version below then later value found else found) (latest-behind-same key below front these those same)
