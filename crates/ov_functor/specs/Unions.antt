-- Lists of items by version and then key, each version and key once: the union of lists of items.
use Rattle.std.specs.Prelude.{◌≡◌, ◌==◌, ℕ, Bool, true, ◌&&◌, nat_le, nat_lt, List, [], ◌∷◌, ◌++◌, if◌then◌else◌}
use Rattle.std.specs.Cmp.Lexicographic.{slice_cmp}
use Rattle.std.specs.Ordering.{nat_cmp, ordering_then, is_lt}
use Rattle.ov_base.specs.Key.{key_eq}
use Rattle.ov_functor.specs.Windows.{Among}
use Rattle.ov_functor.specs.declared.item.Item.{Item}

-- whether two items are of one version and key
abbrev pub same_place : Item → Item → Bool
same_place a b = (a.version == b.version) && key_eq a.key b.key

-- whether an item stands before another by version, and of one version by key
abbrev pub precedes : Item → Item → Bool
precedes a b = is_lt (ordering_then (nat_cmp a.version b.version) (slice_cmp nat_cmp a.key b.key))

-- the items with one more in its place; what stands there already stays
abbrev pub added : Item → List Item → List Item
added new [] = new ∷ []
added new (item ∷ items) = if same_place item new then item ∷ items else (if precedes item new then item ∷ added new items else new ∷ item ∷ items)

-- the items with these added one after another
abbrev pub all_added : List Item → List Item → List Item
all_added [] items = items
all_added (new ∷ others) items = all_added others (added new items)

-- the union of items: by version and then key, of one version and key the first
abbrev pub union : List Item → List Item
union items = all_added items []

-- each item stands before all behind it: by version, and of one version by key
abbrev pub IsSorted : List Item → Type 0
IsSorted [] = Unit {0}
IsSorted (item ∷ items) = ((other : Item) → Among other items → precedes item other ≡ true) × IsSorted items

-- whether an item lies in the window from one number up to and without another
abbrev pub is_inside : ℕ → ℕ → Item → Bool
is_inside from below item = nat_le from item.version && nat_lt item.version below

-- a list, its last one first
abbrev pub backwards : {A : Type 0} → List A → List A
backwards [] = []
backwards (x ∷ xs) = backwards xs ++ x ∷ []
