use Rattle.std.proofs.Common.{◌∙◌, ap, sym, arith}
use Rattle.ov_gate.specs.declared.tracked.Tracked.{Tracked}
use Rattle.ov_gate.proofs.Rising.{lacks_past, lacks_at}
use Rattle.ov_gate.proofs.tracker.find.Goals as goal
use Rattle.ov_gate.proofs.tracker.find.Goals.{else-place-items-via-then-place-items+else-number, else-place-items-via-else-place-items}

pub returns-else-place-items-clause-place : goal.returns-else-place-items-clause-place
returns-else-place-items-clause-place c = λ rises.
    elim c.else-place-items.branch [
      | else-place-items-via-then-place-items+else-number w ↦
          lacks_at c.args.version c.args.items.now _ w.index-items-place.result rises (c.earlier-place.ensures rises) w.if-place-items.true w.index-items-place.is (λ same. absurd (w.if-number.false (w.number.ensures.value ∙ (sym (ap (λ (o : Tracked). o.version) w.index-items-place.is) ∙ same) ∙ sym w.number-then-place-items.ensures.value)))
      | else-place-items-via-else-place-items w ↦ lacks_past c.args.version c.args.items.now (omega (arith, c.earlier-place.ensures rises, w.if-place-items.false))
    ]
