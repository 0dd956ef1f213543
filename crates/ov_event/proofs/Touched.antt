-- The partitions that a transaction touches: that of a place, where they are gathered upwards.
use Rattle.std.proofs.Common.{◌≡◌, ℕ, zero, suc, ◌<◌, true, List, [], ◌∷◌, ◌++◌, length, Some, subst, sym, Bool, inl, inr, arith}
use Rattle.std.specs.Prelude.{slice_get, if◌then◌else◌}
use Rattle.std.proofs.lemmas.Bool.Decides.{eqb_tells}
use Rattle.ov_base.proofs.Lists.{get_front, get_next}
use Rattle.ov_functor.specs.declared.part.Part.{Part}
use Rattle.ov_topology.specs.Shape.{Shape}
use Rattle.ov_event.specs.Letters.{touches, touched_below, touched}

up_here : (t : Shape) (parts : List Part) (part : ℕ) → touches t parts part ≡ true
    → slice_get (touched_below t parts (suc part)) (length (touched_below t parts part)) ≡ Some part
up_here t parts part here =
    subst (λ (b : Bool). slice_get (touched_below t parts part ++ (if b then part ∷ [] else [])) (length (touched_below t parts part)) ≡ Some part)
    (sym here) (get_next (touched_below t parts part) part)

touched_up : (t : Shape) (parts : List Part) (part whole : ℕ) → part < whole → touches t parts part ≡ true
    → slice_get (touched_below t parts whole) (length (touched_below t parts part)) ≡ Some part
touched_up t parts part zero there here = absurd (omega arith)
touched_up t parts part (suc whole) there here = elim (eqb_tells part whole) [
  | inl h ↦ subst (λ (n : ℕ). slice_get (touched_below t parts (suc n)) (length (touched_below t parts part)) ≡ Some part) h.1 (up_here t parts part here)
  | inr h ↦ get_front (touched_below t parts whole) _ (length (touched_below t parts part)) part (touched_up t parts part whole (omega (arith, h.1)) here)
]

-- a partition that is touched stands at the place that counts those below it
pub touched_there : (t : Shape) (parts : List Part) (part index : ℕ) → part < t.partitions → touches t parts part ≡ true
    → length (touched_below t parts part) ≡ index → slice_get (touched t parts) index ≡ Some part
touched_there t parts part index there here at =
    subst (λ (i : ℕ). slice_get (touched t parts) i ≡ Some part) at (touched_up t parts part t.partitions there here)
