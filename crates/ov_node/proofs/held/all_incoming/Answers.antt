use Rattle.std.proofs.Common.{◌<◌, length, sym, ◌∙◌}
use Rattle.ov_node.proofs.Letters.{items_more}
use Rattle.ov_node.proofs.held.all_incoming.Goals as goal

pub loop-place-preserved : goal.loop-place-preserved
loop-place-preserved c =
    let within : c.loop-place.place < length c.args.items.now = rw c.as_slice-listed.ensures at c.loop-place-test.true in
    let more = items_more c.args.items.now c.loop-place.place c.index-listed-place.result within (rw c.as_slice-listed.ensures at c.index-listed-place.is) in
    c.in_ok-push.ensures.items ∙ rw (c.loop-place.invariant, c.in_ok-copy.ensures) (sym more)
