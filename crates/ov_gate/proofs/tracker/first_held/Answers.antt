use Rattle.std.proofs.Common.{sym, ◌∙◌, arith}
use Rattle.ov_gate.proofs.Rising.{first_within, first_here, first_past}
use Rattle.ov_gate.proofs.tracker.first_held.Goals as goal

pub returns-then-lacks : goal.returns-then-lacks
returns-then-lacks c =
    let here = first_here c.args.mark c.args.items.now c.loop-place.place c.index-items-place.result c.loop-place-test.true c.index-items-place.is (sym c.lacks.ensures ∙ c.if-lacks.true) in
    omega (arith, here, c.loop-place.invariant)

pub loop-place-preserved : goal.loop-place-preserved
loop-place-preserved c =
    first_past c.args.mark c.args.items.now c.loop-place.place c.index-items-place.result c.loop-place-test.true c.index-items-place.is (sym c.lacks.ensures ∙ c.if-lacks.false) c.loop-place.invariant

pub returns : goal.returns
returns c = let within = first_within c.args.mark c.args.items.now in omega (arith, within, c.loop-place.invariant)
