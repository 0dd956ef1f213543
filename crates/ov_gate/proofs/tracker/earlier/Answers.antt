use Rattle.std.proofs.Common.{ap, arith}
use Rattle.ov_gate.specs.declared.tracked.Tracked.{Tracked}
use Rattle.ov_gate.proofs.Rising.{earlier_within, earlier_past, earlier_here}
use Rattle.ov_gate.proofs.tracker.earlier.Goals as goal

pub loop-low-init : goal.loop-low-init
loop-low-init c = record {
  order = omega arith;
  within = omega arith;
  above = λ rises. omega arith;
  below = λ rises. earlier_within c.args.version c.args.items.now;
}

pub loop-low-preserved-then-number : goal.loop-low-preserved-then-number
loop-low-preserved-then-number c = record {
  order = omega (arith, c.loop-low-test.true);
  within = c.loop-low.invariant.within;
  above = λ rises. earlier_past c.args.version c.args.items.now _ c.index-items-middle.result rises (omega (arith, c.loop-low-test.true, c.loop-low.invariant.within)) c.index-items-middle.is (omega (arith, ap (λ (o : Tracked). o.version) c.index-items-middle.is, c.number.ensures.value, c.number-in-loop-low.ensures.value, c.if-number.true));
  below = c.loop-low.invariant.below;
}

pub loop-low-preserved : goal.loop-low-preserved
loop-low-preserved c = record {
  order = omega (arith, c.loop-low-test.true);
  within = omega (arith, c.loop-low-test.true, c.loop-low.invariant.within);
  above = c.loop-low.invariant.above;
  below = λ rises. earlier_here c.args.version c.args.items.now _ c.index-items-middle.result (omega (arith, c.loop-low-test.true, c.loop-low.invariant.within)) c.index-items-middle.is (omega (arith, ap (λ (o : Tracked). o.version) c.index-items-middle.is, c.number.ensures.value, c.number-in-loop-low.ensures.value, c.if-number.false));
}
