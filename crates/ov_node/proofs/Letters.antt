-- The items of a letter, as a node holds them by their places.
use Rattle.std.proofs.Common.{◌≡◌, ℕ, zero, suc, ◌+◌, ◌<◌, List, [], ◌∷◌, ◌++◌, length, take, get_or, refl, sym, ap, ◌∙◌, arith}
use Rattle.std.proofs.lemmas.List.{take_more}
use Rattle.ov_functor.specs.declared.item.Item.{Item}
use Rattle.ov_node.specs.Held.{functor_at}

-- the functor of the item that stands at a place
pub functor_there : (items : List Item) (place : ℕ) (other : Item) → place < length items → (get_or items place other).functor ≡ functor_at items place
functor_there [] place other within = absurd (omega (arith, within))
functor_there (first ∷ items) zero other within = refl
functor_there (first ∷ items) (suc place) other within = functor_there items place other (omega (arith, within))

-- the items up to one more place
pub items_more : (items : List Item) (place : ℕ) (item : Item) → place < length items → item ≡ get_or items place item
    → take (place + 1) items ≡ take place items ++ record { version = item.version; key = item.key; functor = functor_at items place } ∷ []
items_more items place item within is =
    take_more items place item within
    ∙ ap (λ (one : Item). take place items ++ one ∷ []) (sym is)
    ∙ ap (λ functor. take place items ++ record { version = item.version; key = item.key; functor = functor } ∷ []) (ap (λ (one : Item). one.functor) is ∙ functor_there items place item within)
