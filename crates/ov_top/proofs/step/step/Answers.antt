use Rattle.ov_top.specs.Names.{names_seen}
use Rattle.ov_top.proofs.Steps.{ends_performed, ends_refused}
use Rattle.ov_top.proofs.step.step.Goals as goal

pub returns-in-Err-clause-ends : goal.returns-in-Err-clause-ends
returns-in-Err-clause-ends g c = ends_refused (g.F.Shelf.told c.args.shelf.now) (g.F.Shelf.faults c.args.shelf.now) (g.F.Shelf.faults c.prepare.new.shelf) (names_seen c.args.names.now)
    c.in-Err.refusal c.put_refusal.result (g.K.Sink.faults c.args.out.now) (g.K.Sink.faults c.put_refusal.new.out) c.prepare.new.story _ _
    c.in-Err.ensures.prepared c.put_refusal.ensures.puts c.put_refusal.ensures.memory

pub returns-in-Ok-clause-ends : goal.returns-in-Ok-clause-ends
returns-in-Ok-clause-ends g c = ends_performed (g.F.Shelf.told c.args.shelf.now) (g.F.Shelf.faults c.args.shelf.now) (g.F.Shelf.faults c.prepare.new.shelf) (names_seen c.args.names.now)
    c.in-Ok.accepted c.prepare.new.story c.perform.new.story c.perform.result _ _ c.in-Ok.ensures.prepared c.perform.ensures.performs
