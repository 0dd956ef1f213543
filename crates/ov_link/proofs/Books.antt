-- The book of nodes: it has each item that a node holds.
use Rattle.std.proofs.Common.{◌≡◌, ℕ, Bool, true, false, ◌⊎◌, inl, inr, Option, Some, None, List, [], ◌∷◌, ◌++◌, cond, filter, refl, ap, sym, subst, ◌∙◌}
use Rattle.std.specs.Prelude.{find}
use Rattle.std.specs.List.{AllByRecursion}
use Rattle.std.specs.Option.{option_map_or}
use Rattle.ov_functor.specs.Unions.{is_inside}
use Rattle.ov_functor.specs.Windows.{Among, HasItem}
use Rattle.ov_functor.specs.declared.item.Item.{Item}
use Rattle.ov_functor.proofs.Among.{among_back, among_front}
use Rattle.ov_functor.proofs.Unions.{all_added_comes, all_added_has}
use Rattle.ov_window.specs.declared.round.Round.{Round}
use Rattle.ov_laws.proofs.Windows.Added.{filter_comes}
use Rattle.ov_link.specs.Links.{AreAlike, AreAmong, AreInside, in_window}
use Rattle.ov_link.specs.Nodes.{all_items, book_of, held_by, is_node}
use Rattle.ov_link.specs.declared.nodes.Held.{Held}

-- a node that was found holds its items
pub found_held : (nodes : List Held) (centre part : ℕ) (node : Held) → Some node ≡ find (is_node centre part) nodes → node.items ≡ held_by nodes centre part
found_held nodes centre part node found = ap (λ (o : Option Held). option_map_or (λ one. one.items) o []) found

-- a node that was not found holds nothing
pub none_held : (nodes : List Held) (centre part : ℕ) → None ≡ find (is_node centre part) nodes → [] ≡ held_by nodes centre part
none_held nodes centre part none = ap (λ (o : Option Held). option_map_or (λ one. one.items) o []) none

-- each item of a node is among all
held_among : (nodes : List Held) (centre part : ℕ) (item : Item) → Among item (held_by nodes centre part) → Among item (all_items nodes)
held_among [] centre part item among = absurd among
held_among (node ∷ nodes) centre part item among = by (is_node centre part node) among (held_among nodes centre part item)
  where
    by : (b : Bool) → Among item (option_map_or (λ (one : Held). one.items) (cond b (Some node) (find (is_node centre part) nodes)) [])
        → (Among item (held_by nodes centre part) → Among item (all_items nodes)) → Among item (node.items ++ all_items nodes)
    by true here later = among_front item node.items (all_items nodes) here
    by false there later = among_back item node.items (all_items nodes) (later there)

-- where items are alike, each is in their union
book_has : (nodes : List Held) (item : Item) → AreAlike (all_items nodes) → Among item (all_items nodes) → Among item (book_of nodes)
book_has nodes item alike among = by (all_added_comes has.found (all_items nodes) [] has.within)
  where
    has : HasItem (book_of nodes) item.version item.key
    has = all_added_has item (all_items nodes) [] among

    by : Among has.found (all_items nodes) ⊎ Among has.found [] → Among item (book_of nodes)
    by (inl there) = subst (λ (x : Item). Among x (book_of nodes)) (alike has.found item there among has.version_is has.key_is) has.within
    by (inr none) = absurd none

-- what a test leaves passes it
all_passing : (test : Item → Bool) (items : List Item) → AllByRecursion (λ item. test item ≡ true) (filter test items)
all_passing test [] = tt
all_passing test (first ∷ rest) = by (test first) refl (all_passing test rest)
  where
    by : (b : Bool) → test first ≡ b → AllByRecursion (λ item. test item ≡ true) (filter test rest) → AllByRecursion (λ item. test item ≡ true) (cond b (first ∷ filter test rest) (filter test rest))
    by true is later = (is, later)
    by false is later = later

-- what is left of a window lies in it
pub window_inside : (round : Round) (items : List Item) → AreInside round (in_window round items)
window_inside round items = all_passing (is_inside round.from round.below) items

-- what a node holds of a window is in the book
pub window_booked : (nodes : List Held) (centre part : ℕ) (round : Round) → AreAlike (all_items nodes) → AreAmong (in_window round (held_by nodes centre part)) (book_of nodes)
window_booked nodes centre part round alike item among =
    book_has nodes item alike (held_among nodes centre part item (filter_comes (is_inside round.from round.below) item (held_by nodes centre part) among).0)
