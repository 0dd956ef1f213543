use Rattle.std.proofs.Common.{◌≡◌, ◌<◌, ◌+◌, ◌-◌, ◌/◌, ℕ, length, arith, sym, ap, subst}
use Rattle.ov_lists.specs.Parts.{place_in, listed}
use Rattle.ov_lists.specs.Places.{AreBehind}
use Rattle.ov_lists.proofs.Parts.{front_of_next, ends_within}
use Rattle.ov_lists.proofs.Picked.{count_listed, read_part}
use Rattle.ov_lists.proofs.Places.{before_upto, behind_from}
use Rattle.ov_lists.proofs.search.offset_of.Goals as goal

pub offset_bounds-items-places : goal.offset_bounds-items-places
offset_bounds-items-places g c =
    let middle : ℕ = c.loop-low.low + (c.loop-low.high - c.loop-low.low) / 2 in
    let there : middle < length c.places-places.result.now = omega (arith, c.loop-low-test.true, c.loop-low.invariant.within, ap length c.places-places.ensures.value) in
    let read = read_part c.args.items.now c.args.blocks.now.parts c.args.block middle c.places-places.result.now c.requires.index c.requires.block c.places-places.ensures.value there in
    omega (arith, read.0)

pub bounds-items-places : goal.bounds-items-places
bounds-items-places g c =
    let middle : ℕ = c.loop-low.low + (c.loop-low.high - c.loop-low.low) / 2 in
    let there : middle < length c.places-places.result.now = omega (arith, c.loop-low-test.true, c.loop-low.invariant.within, ap length c.places-places.ensures.value) in
    (read_part c.args.items.now c.args.blocks.now.parts c.args.block middle c.places-places.result.now c.requires.index c.requires.block c.places-places.ensures.value there).0

pub loop-low-init : goal.loop-low-init
loop-low-init g c = record {
  some = omega arith;
  order = omega (arith, c.places-places.ensures.some);
  within = omega (arith, ap length c.places-places.ensures.value);
  before = c.requires.before;
  behind = λ k d past within.
      c.requires.behind k d (omega (arith, past, ap length c.places-places.ensures.value, front_of_next c.args.blocks.now.parts c.args.block (c.args.block + 1) c.requires.block (omega arith))) within;
}

pub loop-low-preserved-then-is_before : goal.loop-low-preserved-then-is_before
loop-low-preserved-then-is_before g c =
    let middle : ℕ = c.loop-low.low + (c.loop-low.high - c.loop-low.low) / 2 in
    let here : middle < length c.places-places.result.now = omega (arith, c.loop-low-test.true, c.loop-low.invariant.within, ap length c.places-places.ensures.value) in
    let read = read_part c.args.items.now c.args.blocks.now.parts c.args.block middle c.places-places.result.now c.requires.index c.requires.block c.places-places.ensures.value here in
    let within : place_in c.args.blocks.now.parts c.args.block middle < length (listed c.args.items.now c.args.blocks.now.parts) =
    omega (arith, here, ap length c.places-places.ensures.value, ends_within c.args.blocks.now.parts c.args.block c.requires.block, count_listed c.args.items.now c.args.blocks.now.parts c.requires.index) in
    record {
      some = omega arith;
      order = omega (arith, c.loop-low-test.true);
      within = c.loop-low.invariant.within;
      before = λ k d under.
          before_upto (listed c.args.items.now c.args.blocks.now.parts) c.requires.index.ordered (place_in c.args.blocks.now.parts c.args.block middle) c.index-items-places.result c.args.key.now c.args.number
          within (read.1 c.index-items-places.result c.index-items-places.is) (sym c.if-is_before.ensures) k d (omega (arith, under));
      behind = c.loop-low.invariant.behind;
    }

pub loop-low-preserved : goal.loop-low-preserved
loop-low-preserved g c =
    let middle : ℕ = c.loop-low.low + (c.loop-low.high - c.loop-low.low) / 2 in
    let here : middle < length c.places-places.result.now = omega (arith, c.loop-low-test.true, c.loop-low.invariant.within, ap length c.places-places.ensures.value) in
    let read = read_part c.args.items.now c.args.blocks.now.parts c.args.block middle c.places-places.result.now c.requires.index c.requires.block c.places-places.ensures.value here in
    let within : place_in c.args.blocks.now.parts c.args.block middle < length (listed c.args.items.now c.args.blocks.now.parts) =
    omega (arith, here, ap length c.places-places.ensures.value, ends_within c.args.blocks.now.parts c.args.block c.requires.block, count_listed c.args.items.now c.args.blocks.now.parts c.requires.index) in
    record {
      some = c.loop-low.invariant.some;
      order = omega arith;
      within = omega (arith, c.loop-low.invariant.within, c.loop-low-test.true);
      before = c.loop-low.invariant.before;
      behind = λ k d past far.
          behind_from (listed c.args.items.now c.args.blocks.now.parts) c.requires.index.ordered (place_in c.args.blocks.now.parts c.args.block middle) c.index-items-places.result c.args.key.now c.args.number
          within (read.1 c.index-items-places.result c.index-items-places.is) (sym c.if-is_before.ensures) k d (omega (arith, past)) far;
    }

pub returns-clause-place : goal.returns-clause-place
returns-clause-place g c =
    let met : c.loop-low.high ≡ c.loop-low.low = omega (arith, c.loop-low.invariant.order, c.loop-low-test.false) in
    record {
      within = omega (arith, c.loop-low.invariant.within, met, ends_within c.args.blocks.now.parts c.args.block c.requires.block, count_listed c.args.items.now c.args.blocks.now.parts c.requires.index);
      before = c.loop-low.invariant.before;
      behind = subst (λ (n : ℕ). AreBehind c.args.key.now c.args.number (listed c.args.items.now c.args.blocks.now.parts) (place_in c.args.blocks.now.parts c.args.block n)) met c.loop-low.invariant.behind;
    }
