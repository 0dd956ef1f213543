use Rattle.std.proofs.Common.{length-set}
use Rattle.ov_chronicle.proofs.Starts.{still_all}
use Rattle.ov_chronicle.proofs.tests.append_at.Goals as goal

pub returns-in-Ok : goal.returns-in-Ok
returns-in-Ok g c = (
  still_all c.args.book.now c.args.seats.now.items c.args.actor c.index_mut.result.now c.append.new.seat c.requires.1 c.index_mut.ensures.value c.append.ensures.own c.requires.0,
  length-set c.args.seats.now.items c.args.actor c.append.new.seat,
)

pub returns-in-Err : goal.returns-in-Err
returns-in-Err g c = (
  still_all c.args.book.now c.args.seats.now.items c.args.actor c.index_mut.result.now c.append.new.seat c.requires.1 c.index_mut.ensures.value c.append.ensures.own c.requires.0,
  length-set c.args.seats.now.items c.args.actor c.append.new.seat,
)
