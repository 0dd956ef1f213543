use Rattle.std.proofs.Common.{length, arith, sym, ap, ◌∙◌, ◌++◌, ◌∷◌, []}
use Rattle.ov_lists.proofs.Parts.{range_next}
use Rattle.ov_lists.proofs.block.Block.run.Goals as goal

pub loop-place-preserved : goal.loop-place-preserved
loop-place-preserved c = record {
  low = omega (arith, c.loop-place.invariant.low);
  high = omega (arith, c.loop-place-test.true, c.loop-place.invariant.high);
  long = omega (arith, ap length c.push.ensures.items, c.push.ensures.len, c.loop-place.invariant.long);
  places = c.push.ensures.items ∙ ap (λ t. t ++ c.loop-place.place ∷ []) c.loop-place.invariant.places ∙ sym (range_next c.args.start c.loop-place.place c.loop-place.invariant.low);
}
