use Rattle.std.proofs.Common.{◌≡◌, ◌≤◌, length}
use Rattle.std.specs.Vec.Iter.{into_iter_items}
use Rattle.ov_node.specs.Node.{items_in}
use Rattle.ov_node.proofs.node.add_all.Given as goal
use Rattle.ov_functor.specs.Unions.{all_added}

abbrev pub invariant-loop-item : goal.invariant-loop-item
invariant-loop-item l = record {
  items : all_added (into_iter_items l.item-iterator) (items_in l.lists.entries) ≡ all_added l.fn.items.items (items_in l.initial.lists.entries);
  room : length (into_iter_items l.item-iterator) ≤ l.lists.spare;
}
