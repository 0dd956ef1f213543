use Rattle.std.proofs.Common.{◌∙◌, ap, sym}
use Rattle.ov_gate.specs.declared.tracked.Tracked.{Tracked}
use Rattle.ov_gate.proofs.Rising.{least_at, least_past}
use Rattle.ov_gate.proofs.tracker.least_from.Goals as goal

pub returns-then-place-items : goal.returns-then-place-items
returns-then-place-items c = λ mark rises at.
    c.min.ensures ∙ least_at mark c.args.top c.args.items.now c.args.place c.number.result c.index-items-place.result rises at c.if-place-items.true c.index-items-place.is (c.number.ensures.value ∙ ap (λ (o : Tracked). o.version) (sym c.index-items-place.is))

pub returns-else-place-items : goal.returns-else-place-items
returns-else-place-items c = λ mark rises at. least_past mark c.args.top c.args.items.now c.args.place at c.if-place-items.false
