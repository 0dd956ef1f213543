use Rattle.std.proofs.Common.{◌≡◌, length, map}
use Rattle.std.specs.Vec.Iter.{into_iter_items, into_iter_len}
use Rattle.ov_functor.specs.Unions.{union}
use Rattle.ov_window.specs.Plan.{map_below}
use Rattle.ov_window.proofs.Drafting.{Partway}
use Rattle.ov_window.proofs.plan.planned.Given as goal

-- some items of the union are done, and the others are left
abbrev pub invariant-loop-item : goal.invariant-loop-item
invariant-loop-item l = record {
  count : into_iter_len l.item-iterator ≡ length (into_iter_items l.item-iterator);
  partway : Partway (map_below l.from l.base.entries) (union (map (λ one. one.now) l.fn.items.items)) (map (λ one. one.now) (into_iter_items l.item-iterator)) l.tasks.items l.places.entries;
}
