-- What a node core is, which histories it stands for, and which entries its calls make.
use Rattle.std.specs.Prelude.{◌≡◌, ℕ, Bool, true, false, List, map, Option, Some}
use Rattle.std.specs.List.{filter}
use Rattle.ov_functor.specs.Placeholder.{Placeholder}
use Rattle.ov_functor.specs.declared.item.Item.{Item}
use Rattle.ov_functor.specs.Unions.{is_inside}
use Rattle.ov_topology.specs.declared.actor.Actor.{Actor}
use Rattle.ov_topology.specs.declared.actor.Actor.TheVariants.{Node}
use Rattle.ov_event.specs.declared.kind.Kind.{Kind}
use Rattle.ov_event.specs.declared.kind.Kind.TheVariants.{Stored, Answered}
use Rattle.ov_event.specs.declared.letter.Letter.{Letter}
use Rattle.ov_event.specs.declared.letter.Letter.TheVariants.{Ask}
use Rattle.ov_event.specs.Letters.{is_asked}
use Rattle.ov_topology.specs.declared.mode.Mode.{Mode}
use Rattle.ov_lists.specs.Entries as lists
use Rattle.ov_history.specs.Past.{History}
use Rattle.ov_history.specs.Nodes.{held}
use Rattle.ov_history.specs.May.{Setting}
use Rattle.ov_history.specs.Cores.{Runs}

-- What contracts see of a node core: which node it is, the items that it holds by version and then key, and whether it has stopped.
pub record NodeState : Type 0 where
  pub centre : ℕ
  pub part : ℕ
  pub items : List Item
  pub stopped : Bool

-- the item that an entry of version lists keeps
abbrev pub item_of : lists.Entry Placeholder → Item
item_of e = record { version = e.version; key = e.key; functor = e.item }

-- the items that version lists keep, by version and then key
abbrev pub items_in : List (lists.Entry Placeholder) → List Item
items_in entries = map item_of (lists.by_version entries)

-- The core stands for a history after which the actor is as the core has it: it is this node, it runs or has stopped, and it holds
-- these items.
pub record IsNode (t : Setting) (h : History) (actor : Actor) (node : NodeState) : Type 0 where
  pub actor_is : actor ≡ Node node.centre node.part
  pub runs : Runs t h actor node.stopped
  pub items_are : node.items ≡ held node.centre node.part h

-- whether an entry of this kind is one that `store` makes
abbrev pub stores : Kind → Bool
stores (Stored place version items) = true
stores other = false

-- whether an entry of this kind is one that `answer` makes
abbrev pub answers : Kind → Bool
answers (Answered place settler round items) = true
answers other = false

-- A letter asks the node in a round of the settler, and the items are all that it holds in the window asked for.
pub record Asks (node : NodeState) (letter : Option Letter) (settler round : ℕ) (items : List Item) : Type 0 where
  pub mode : Mode
  pub from : ℕ
  pub below : ℕ
  pub sent : letter ≡ Some (Ask settler round mode from below)
  pub asked : is_asked settler mode (Node node.centre node.part) ≡ true
  pub all : items ≡ filter (is_inside from below) node.items
