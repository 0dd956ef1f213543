use Rattle.std.proofs.Common.{Some, None}
use Rattle.ov_base.specs.declared.value.Value.TheVariants.{Number}
use Rattle.ov_functor.proofs.KeptMaps.{updated}
use Rattle.ov_serial.proofs.write.set_one.Goals as goal

pub returns-in-Absent : goal.returns-in-Absent
returns-in-Absent c = rw c.in-Absent.is (updated Number c.args.values.now c.remove.new.self c.args.key None c.remove.ensures.updates.0)

pub returns-in_ok-insert-in-Number : goal.returns-in_ok-insert-in-Number
returns-in_ok-insert-in-Number c =
    rw c.in-Number.is (updated Number c.args.values.now c.insert.new.self c.args.key (Some c.in-Number.amount) c.in_ok-insert-in-Number.ensures.updates.0)
