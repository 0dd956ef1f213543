use Rattle.std.proofs.Common.{◌<◌, ℕ, length, sym, subst, ◌∙◌, arith}
use Rattle.ov_base.proofs.Lists.{all_at}
use Rattle.ov_lists.specs.Parts.{flat, place_in}
use Rattle.ov_lists.proofs.Picked.{index_below, count_listed, picked_at}
use Rattle.ov_lists.proofs.search.entry_at.Goals as goal

pub offset_bounds-items-place : goal.offset_bounds-items-place
offset_bounds-items-place g c =
    let below : c.place.result < length c.args.items.now =
    subst (λ (n : ℕ). n < length c.args.items.now) (sym c.place.ensures.value)
    (all_at (λ n. n < length c.args.items.now) (flat c.args.blocks.now.parts) (place_in c.args.blocks.now.parts c.args.at.block c.args.at.offset) c.place.result c.place.ensures.within (index_below c.args.items.now c.args.blocks.now.parts c.requires.index)) in
    omega (arith, below)

pub bounds-items-place : goal.bounds-items-place
bounds-items-place g c =
    subst (λ (n : ℕ). n < length c.args.items.now) (sym c.place.ensures.value)
    (all_at (λ n. n < length c.args.items.now) (flat c.args.blocks.now.parts) (place_in c.args.blocks.now.parts c.args.at.block c.args.at.offset) c.place.result c.place.ensures.within (index_below c.args.items.now c.args.blocks.now.parts c.requires.index))

pub returns-clause-value : goal.returns-clause-value
returns-clause-value g c =
    c.index-items-place.is
    ∙ sym (picked_at c.args.items.now (flat c.args.blocks.now.parts) (place_in c.args.blocks.now.parts c.args.at.block c.args.at.offset) c.place.result c.index-items-place.result
    (index_below c.args.items.now c.args.blocks.now.parts c.requires.index) c.place.ensures.within c.place.ensures.value)

pub returns-clause-within : goal.returns-clause-within
returns-clause-within g c = omega (arith, c.place.ensures.within, count_listed c.args.items.now c.args.blocks.now.parts c.requires.index)
