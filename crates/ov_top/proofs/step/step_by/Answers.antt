use Rattle.std.proofs.Common.{map, string_bytes, Global, refl, sym, ◌∙◌}
use Rattle.ov_top.specs.Words.{order_of}
use Rattle.ov_top.proofs.Steps.{ends_before, ends_usage}
use Rattle.ov_top.proofs.step.step_by.Goals as goal

pub returns-in-Err-clause-ends : goal.returns-in-Err-clause-ends
returns-in-Err-clause-ends g c =
    rw c.requires (ends_before (g.F.Shelf.told c.args.shelf.now) (g.F.Shelf.faults c.args.shelf.now) (g.F.Shelf.faults c.args.shelf.now)
    (order_of (map (string_bytes {Z = Global}) c.args.words.now)) (g.K.Sink.written c.args.out.now))

pub returns-in-Ok-None-clause-ends : goal.returns-in-Ok-None-clause-ends
returns-in-Ok-None-clause-ends g c =
    rw (sym c.in-Ok-None.ensures.exact ∙ c.in-Ok-None.field-0-is, c.requires)
    (ends_usage (g.F.Shelf.told c.args.shelf.now) (g.F.Shelf.faults c.args.shelf.now) c.put_usage.result (g.K.Sink.faults c.args.out.now) (g.K.Sink.faults c.put_usage.new.out) _ _ c.put_usage.ensures)
