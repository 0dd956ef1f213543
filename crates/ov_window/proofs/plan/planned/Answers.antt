use Rattle.std.proofs.Common.{◌≡◌, ◌∷◌, [], List, length, sym, ap, subst, arith, ◌∙◌}
use Rattle.std.specs.Borrow.{Bor}
use Rattle.std.specs.Vec.Iter.{into_iter_items}
use Rattle.std.proofs.lemmas.List.{nil_from_length}
use Rattle.ov_functor.specs.Unions.{union}
use Rattle.ov_functor.specs.declared.item.Item.{Item}
use Rattle.ov_functor.proofs.Unions.{all_added_sorted}
use Rattle.ov_window.specs.Plan.{IsPlan, map_below}
use Rattle.ov_window.proofs.Drafting.{Partway, all_done, begun, next_behind, one_done}
use Rattle.ov_window.proofs.PlanValues.{plan_fed}
use Rattle.ov_window.proofs.Repeats.{shown}
use Rattle.ov_window.proofs.plan.planned.Goals as goal

pub loop-item-init : goal.loop-item-init
loop-item-init c =
    let gives = c.into_iter-item-iterator.ensures.into_iter_gives in
    record {
      count = gives.1 ∙ c.in_ok-items.items.ok.0 ∙ ap length (sym gives.0);
      partway = rw (gives.0, c.in_ok-items.ensures, c.in_ok-tasks.ensures.items, c.in_ok-reserve.ensures.entries, c.new-places.ensures) (begun (map_below c.args.from c.args.base.now.entries) (union (shown c.args.items.items)));
    }

pub loop-item-preserved : goal.loop-item-preserved
loop-item-preserved c =
    let left : into_iter_items c.loop-item.item-iterator ≡ c.in-Some.item ∷ into_iter_items c.next.new.self = c.in-Some.ensures.steps.0 in
    let partway : Partway (map_below c.args.from c.args.base.now.entries) (union (shown c.args.items.items)) (shown (c.in-Some.item ∷ into_iter_items c.next.new.self)) c.loop-item.tasks.items c.loop-item.places.entries =
    subst (λ (rest : List (Bor Item)). Partway (map_below c.args.from c.args.base.now.entries) (union (shown c.args.items.items)) (shown rest) c.loop-item.tasks.items c.loop-item.places.entries) left c.loop-item.invariant.partway in
    record {
      count = omega (arith, c.in-Some.ensures.steps.1, ap length left, c.loop-item.invariant.count);
      partway = one_done _ _ c.in-Some.item.now _ c.loop-item.tasks.items c.add_task.new.tasks.items c.loop-item.places.entries c.add_task.new.places.entries partway
          (c.in_ok-add_task.ensures partway.done (next_behind _ _ c.in-Some.item.now _ c.loop-item.tasks.items c.loop-item.places.entries (all_added_sorted (shown c.args.items.items) [] tt) partway) partway.draft);
    }

pub invariant_of-result : goal.invariant_of-result
invariant_of-result c =
    let none : into_iter_items c.loop-item.item-iterator ≡ [] = nil_from_length (into_iter_items c.loop-item.item-iterator) (sym c.loop-item.invariant.count ∙ c.in-None.ensures.steps.0) in
    let partway : Partway (map_below c.args.from c.args.base.now.entries) (union (shown c.args.items.items)) [] c.loop-item.tasks.items c.loop-item.places.entries =
    subst (λ (rest : List (Bor Item)). Partway (map_below c.args.from c.args.base.now.entries) (union (shown c.args.items.items)) (shown rest) c.loop-item.tasks.items c.loop-item.places.entries) none c.loop-item.invariant.partway in
    subst IsPlan (sym (all_done _ _ c.loop-item.tasks.items c.loop-item.places.entries partway)) (plan_fed (map_below c.args.from c.args.base.now.entries) (union (shown c.args.items.items)))

pub returns : goal.returns
returns c =
    let none : into_iter_items c.loop-item.item-iterator ≡ [] = nil_from_length (into_iter_items c.loop-item.item-iterator) (sym c.loop-item.invariant.count ∙ c.in-None.ensures.steps.0) in
    let partway : Partway (map_below c.args.from c.args.base.now.entries) (union (shown c.args.items.items)) [] c.loop-item.tasks.items c.loop-item.places.entries =
    subst (λ (rest : List (Bor Item)). Partway (map_below c.args.from c.args.base.now.entries) (union (shown c.args.items.items)) (shown rest) c.loop-item.tasks.items c.loop-item.places.entries) none c.loop-item.invariant.partway in
    all_done _ _ c.loop-item.tasks.items c.loop-item.places.entries partway
