-- What nodes hold, and what they answer.
use Rattle.std.specs.Prelude.{ℕ, List, [], ◌∷◌, if◌then◌else◌}
use Rattle.std.specs.List.{filter}
use Rattle.ov_functor.specs.Unions.{all_added, is_inside}
use Rattle.ov_functor.specs.declared.item.Item.{Item}
use Rattle.ov_event.specs.declared.entry.Entry.{Entry}
use Rattle.ov_event.specs.declared.kind.Kind.{Kind}
use Rattle.ov_event.specs.declared.kind.Kind.TheVariants.{Stored}
use Rattle.ov_history.specs.Past.{History, is_node}

abbrev pub stored_in : Kind → List Item
stored_in (Stored place version items) = items
stored_in other = []

abbrev pub stored_by : ℕ → ℕ → Entry → List Item
stored_by c p e = if is_node c p e.actor then stored_in e.kind else []

-- the items that a node holds, by version and then key: the union of those that it stored
abbrev pub held : ℕ → ℕ → History → List Item
held c p [] = []
held c p (e ∷ h) = all_added (stored_by c p e) (held c p h)

-- what a node answers of a window
abbrev pub answer : ℕ → ℕ → ℕ → ℕ → History → List Item
answer c p from below h = filter (is_inside from below) (held c p h)
