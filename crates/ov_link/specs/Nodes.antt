-- Nodes in memory: what each holds, and a link's calls of them.
use Rattle.std.specs.Prelude.{ℕ, ◌==◌, ◌+◌, ◌&&◌, Bool, Option, Some, None, List, [], find, length}
use Rattle.std.specs.List.{flat_map, list_any}
use Rattle.std.specs.Option.{option_map_or}
use Rattle.ov_functor.specs.Unions.{union}
use Rattle.ov_functor.specs.declared.item.Item.{Item}
use Rattle.ov_link.specs.declared.link.Call.{Call}
use Rattle.ov_link.specs.declared.nodes.Held.{Held}

-- whether this is the list of the node
abbrev pub is_node : ℕ → ℕ → Held → Bool
is_node centre part node = (node.centre == centre) && (node.part == part)

-- what the node holds, by the first list for it; nothing where there is none
abbrev pub held_by : List Held → ℕ → ℕ → List Item
held_by nodes centre part = option_map_or (λ node. node.items) (find (is_node centre part) nodes) []

-- what all nodes hold, one behind the other
abbrev pub all_items : List Held → List Item
all_items nodes = flat_map (λ node. node.items) nodes

-- all that nodes can answer, each version and key once
abbrev pub book_of : List Held → List Item
book_of nodes = union (all_items nodes)

-- What is seen of a link to nodes in memory: the nodes, the numbers of the calls that are to fail, and the calls so far.
pub record LinkState : Type 0 where
  pub nodes : List Held
  pub failing : List ℕ
  pub calls : List Call

-- whether the next call is to fail
abbrev pub is_to_fail : List ℕ → List Call → Bool
is_to_fail failing calls = list_any (λ number. number == length calls + 1) failing
