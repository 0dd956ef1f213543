-- What the laws of links need.
use Rattle.std.specs.Prelude.{◌≡◌, ◌⊎◌, List, [], ◌∷◌}
use Rattle.std.proofs.Common.{inl, inr, ap, sym, ◌∙◌}
use Rattle.ov_functor.specs.Unions.{IsSorted}
use Rattle.ov_functor.specs.Windows.{Among}
use Rattle.ov_functor.specs.declared.item.Item.{Item}
use Rattle.ov_functor.proofs.Unions.{all_added_sorted, before_differs}
use Rattle.ov_link.specs.Links.{AreAlike}
use Rattle.ov_link.specs.Nodes.{all_items, book_of}
use Rattle.ov_link.specs.declared.nodes.Held.{Held}

-- no two items of a sorted list are of one version and key
sorted_alike : (items : List Item) → IsSorted items → AreAlike items
sorted_alike [] sorted one other here there version_is key_is = absurd here
sorted_alike (first ∷ rest) sorted one other (inl is) (inl also) version_is key_is = is ∙ sym also
sorted_alike (first ∷ rest) sorted one other (inl is) (inr later) version_is key_is = absurd (before_differs first other (sorted.0 other later) (ap (λ (x : Item). x.version) (sym is) ∙ version_is) (ap (λ (x : Item). x.key) (sym is) ∙ key_is))
sorted_alike (first ∷ rest) sorted one other (inr later) (inl is) version_is key_is =
    absurd (before_differs first one (sorted.0 one later) (ap (λ (x : Item). x.version) (sym is) ∙ sym version_is) (ap (λ (x : Item). x.key) (sym is) ∙ sym key_is))
sorted_alike (first ∷ rest) sorted one other (inr here) (inr there) version_is key_is = sorted_alike rest sorted.1 one other here there version_is key_is

-- no two items of the book are of one version and key
pub book_alike : (nodes : List Held) → AreAlike (book_of nodes)
book_alike nodes = sorted_alike (book_of nodes) (all_added_sorted (all_items nodes) [] tt)
