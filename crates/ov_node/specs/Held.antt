-- The functors of listed items, by their places.
use Rattle.std.proofs.Common.{zero, suc}
use Rattle.std.specs.Prelude.{ℕ, List, [], ◌∷◌}
use Rattle.ov_functor.specs.Placeholder.{Placeholder}
use Rattle.ov_functor.specs.declared.effect.Effect.TheVariants.{Del}
use Rattle.ov_functor.specs.declared.item.Item.{Item}

-- the functor of the item at a place, and one that deletes the key without bytes where there is none
abbrev pub functor_at : List Item → ℕ → Placeholder
functor_at [] place = record { key = []; effect = Del; moves = [] }
functor_at (item ∷ items) zero = item.functor
functor_at (item ∷ items) (suc place) = functor_at items place
