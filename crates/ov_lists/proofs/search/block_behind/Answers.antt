use Rattle.std.proofs.Common.{◌≡◌, ◌+◌, ◌-◌, ◌/◌, ℕ, arith, sym, ap}
use Rattle.ov_lists.specs.Parts.{start, place_in, listed}
use Rattle.ov_lists.proofs.Parts.{start_end}
use Rattle.ov_lists.proofs.Picked.{count_listed}
use Rattle.ov_lists.proofs.Places.{before_upto, behind_from}
use Rattle.ov_lists.proofs.search.block_behind.Goals as goal

pub loop-low-init : goal.loop-low-init
loop-low-init g c = record {
  order = omega arith;
  within = omega (arith, c.count-high.ensures.value);
  some = c.count-high.ensures.some;
  before = λ none. absurd (omega (arith, none));
  behind = λ k d past within. absurd (omega (arith, past, within, ap (start c.args.blocks.now.parts) c.count-high.ensures.value, start_end c.args.blocks.now.parts, count_listed c.args.items.now c.args.blocks.now.parts c.requires));
}

pub loop-low-preserved-then-is_before : goal.loop-low-preserved-then-is_before
loop-low-preserved-then-is_before g c =
    let middle : ℕ = c.loop-low.low + (c.loop-low.high - c.loop-low.low) / 2 in
    let same : (middle + 1) - 1 ≡ middle = omega arith in
    record {
      order = omega (arith, c.loop-low-test.true);
      within = c.loop-low.invariant.within;
      some = c.loop-low.invariant.some;
      before = λ _ k d under.
          before_upto (listed c.args.items.now c.args.blocks.now.parts) c.requires.ordered (place_in c.args.blocks.now.parts middle 0) c.entry_at.result.now c.args.key.now c.args.number
          c.entry_at.ensures.within c.entry_at.ensures.value (sym c.if-is_before.ensures) k d (omega (arith, under, ap (start c.args.blocks.now.parts) same));
      behind = c.loop-low.invariant.behind;
    }

pub loop-low-preserved : goal.loop-low-preserved
loop-low-preserved g c =
    let middle : ℕ = c.loop-low.low + (c.loop-low.high - c.loop-low.low) / 2 in
    record {
      order = omega arith;
      within = omega (arith, c.loop-low.invariant.within, c.loop-low-test.true);
      some = c.loop-low.invariant.some;
      before = c.loop-low.invariant.before;
      behind = λ k d past within.
          behind_from (listed c.args.items.now c.args.blocks.now.parts) c.requires.ordered (place_in c.args.blocks.now.parts middle 0) c.entry_at.result.now c.args.key.now c.args.number
          c.entry_at.ensures.within c.entry_at.ensures.value (sym c.if-is_before.ensures) k d (omega (arith, past)) within;
    }
