use Rattle.std.proofs.Common.{◌≡◌, ◌+◌, [], ◌∷◌, length, ap, ◌∙◌}
use Rattle.std.proofs.lemmas.List.{length-append}
use Rattle.ov_lists.specs.Parts.{flat, place_in}
use Rattle.ov_lists.proofs.Parts.{position_within}
use Rattle.ov_lists.proofs.Picked.{index_below, picked_insert, places_more}
use Rattle.ov_lists.proofs.lists.insert_entry.Goals as goal

pub returns-clause-entries : goal.returns-clause-entries
returns-clause-entries g c =
    rw (c.push_within-place.ensures.items, c.insert_place.ensures.places, c.push_within-place.ensures.place)
    (picked_insert c.args.items.now.items c.args.entry (flat c.args.blocks.now.parts) (place_in c.args.blocks.now.parts c.args.at.block c.args.at.offset)
    (index_below c.args.items.now.items c.args.blocks.now.parts c.requires.index) (position_within c.args.blocks.now.parts c.args.at.block c.args.at.offset c.requires.within))

pub returns-clause-all : goal.returns-clause-all
returns-clause-all g c =
    let long : length c.push_within-place.new.items.items ≡ length c.args.items.now.items + 1 = ap length c.push_within-place.ensures.items ∙ length-append c.args.items.now.items (c.args.entry ∷ []) in
    rw (long, c.insert_place.ensures.places, c.push_within-place.ensures.place)
    (places_more (length c.args.items.now.items) (place_in c.args.blocks.now.parts c.args.at.block c.args.at.offset) (flat c.args.blocks.now.parts) c.requires.index.all)
