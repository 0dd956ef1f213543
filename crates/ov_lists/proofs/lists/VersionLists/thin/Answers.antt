use Rattle.std.proofs.Common.{ℕ, List, length, arith, sym, ap, subst, ◌∙◌, IsPermutation}
use Rattle.std.specs.List.{range_with_len}
use Rattle.std.proofs.lemmas.List.Sorted.{IsPermutation-refl}
use Rattle.ov_lists.specs.Entries.{Entry, Contents, IsOrdered, is_kept, thinned}
use Rattle.ov_lists.proofs.Entries.{ordered_filter}
use Rattle.ov_lists.proofs.Picked.{sorted_listed, listed_all, count_listed}
use Rattle.ov_lists.proofs.lists.VersionLists.thin.Goals as goal

pub keep_items-gone-requires : goal.keep_items-gone-requires
keep_items-gone-requires g c =
    let sorted = sorted_listed c.self.inside.items.items c.sort_items.new.items.items c.self.inside.blocks.parts c.self.invariant.0 c.sort_items.ensures.permutation c.sort_items.ensures.sorted in
    subst (λ (t : List (Entry _)). IsOrdered t) (sym sorted) c.self.invariant.0.ordered

pub refill-requires : goal.refill-requires
refill-requires g c =
    let sorted = sorted_listed c.self.inside.items.items c.sort_items.new.items.items c.self.inside.blocks.parts c.self.invariant.0 c.sort_items.ensures.permutation c.sort_items.ensures.sorted in
    omega (arith, ap length c.as_slice.ensures.value, c.keep_items-gone.ensures.count, ap length sorted, count_listed c.self.inside.items.items c.self.inside.blocks.parts c.self.invariant.0)

pub invariant_of-self : goal.invariant_of-self
invariant_of-self g c =
    let sorted = sorted_listed c.self.inside.items.items c.sort_items.new.items.items c.self.inside.blocks.parts c.self.invariant.0 c.sort_items.ensures.permutation c.sort_items.ensures.sorted in
    let count = ap length c.as_slice.ensures.value in
    let all = listed_all c.keep_items-gone.new.items.items c.refill.new.blocks.parts (length c.as_slice.result.now) c.refill.ensures.places count in
    let ordered = ordered_filter (is_kept c.args.below c.args.keep_last c.sort_items.new.items.items) c.sort_items.new.items.items (subst (λ (t : List (Entry _)). IsOrdered t) (sym sorted) c.self.invariant.0.ordered) in (
      record {
        all = subst (λ (t : List ℕ). IsPermutation (range_with_len 0 (length c.keep_items-gone.new.items.items)) t) (sym (c.refill.ensures.places ∙ ap (range_with_len 0) count))
            (IsPermutation-refl (range_with_len 0 (length c.keep_items-gone.new.items.items)));
        ordered = subst (λ (t : List (Entry _)). IsOrdered t) (sym (all ∙ c.keep_items-gone.ensures.items)) ordered;
      },
      record {
        few = omega (arith, c.self.invariant.1.few, c.sort_items.ensures.len, c.keep_items-gone.ensures.len);
        items = omega (arith, c.self.invariant.1.items, c.sort_items.ensures.len, c.sort_items.ensures.capacity, c.keep_items-gone.ensures.len, c.keep_items-gone.ensures.capacity);
        blocks = omega (arith, c.self.invariant.1.blocks, c.refill.ensures.spare);
      },
    )

pub returns-clause-entries : goal.returns-clause-entries
returns-clause-entries g c =
    let sorted = sorted_listed c.self.inside.items.items c.sort_items.new.items.items c.self.inside.blocks.parts c.self.invariant.0 c.sort_items.ensures.permutation c.sort_items.ensures.sorted in
    let count = ap length c.as_slice.ensures.value in
    listed_all c.keep_items-gone.new.items.items c.refill.new.blocks.parts (length c.as_slice.result.now) c.refill.ensures.places count
    ∙ c.keep_items-gone.ensures.items
    ∙ ap (λ (t : List (Entry _)). thinned c.args.below c.args.keep_last t) (sorted ∙ ap (λ (s : Contents _). s.entries) c.self.view_is)

pub returns-clause-gone : goal.returns-clause-gone
returns-clause-gone g c =
    let sorted = sorted_listed c.self.inside.items.items c.sort_items.new.items.items c.self.inside.blocks.parts c.self.invariant.0 c.sort_items.ensures.permutation c.sort_items.ensures.sorted in
    let count = ap length c.as_slice.ensures.value in
    let all = listed_all c.keep_items-gone.new.items.items c.refill.new.blocks.parts (length c.as_slice.result.now) c.refill.ensures.places count in
    omega (arith, ap length all, c.keep_items-gone.ensures.count, ap length (sorted ∙ ap (λ (s : Contents _). s.entries) c.self.view_is))

pub returns-clause-ordered : goal.returns-clause-ordered
returns-clause-ordered g c = (invariant_of-self g c).0.ordered
