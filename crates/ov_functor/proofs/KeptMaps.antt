-- What is kept of keys, and the map that it stands for.
use Rattle.std.proofs.Common.{◌≡◌, ℕ, Bool, true, false, cond, List, Option, refl, sym, ap, ◌∙◌}
use Rattle.std.specs.BTreeMap.{BTreeMap, get, is_at}
use Rattle.std.specs.Cmp.Lexicographic.{slice_cmp}
use Rattle.std.specs.Ordering.{nat_cmp}
use Rattle.ov_base.specs.Lemmas.{key_eq-ties}
use Rattle.ov_base.specs.declared.value.Value.{Value}
use Rattle.ov_functor.specs.Execution.{set}
use Rattle.ov_functor.specs.Kept.{value_by, map_by}

by_test : {T : Type 0} (value : T → Value) (here : Bool) (now other : Option T) → value_by value (cond here now other) ≡ cond here (value_by value now) (value_by value other)
by_test value true now other = refl
by_test value false now other = refl

-- where something new or nothing more is kept of a key, what is kept stands for the map in which the key has that value
pub updated : {T : Type 0} (value : T → Value) (old new : BTreeMap (List ℕ) T) (key : List ℕ) (now : Option T)
    → ((other : List ℕ) → get (slice_cmp nat_cmp) new other ≡ cond (is_at (slice_cmp nat_cmp key) other) now (get (slice_cmp nat_cmp) old other))
    → map_by value new ≡ set key (value_by value now) (map_by value old)
updated value old new key now h =
    let at : (other : List ℕ) → map_by value new other ≡ set key (value_by value now) (map_by value old) other =
    λ other. ap (value_by value) (h other) ∙ by_test value (is_at (slice_cmp nat_cmp key) other) now (get (slice_cmp nat_cmp) old other)
    ∙ ap (λ (here : Bool). cond here (value_by value now) (map_by value old other)) (sym (key_eq-ties key other)) in
    λ i other. at other i
