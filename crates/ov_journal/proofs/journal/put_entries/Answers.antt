use Rattle.std.proofs.Common.{rules}
use Rattle.ov_io.proofs.Sinks.{wrote_inside}
use Rattle.ov_journal.proofs.Writing.{ended, wrote_next}
use Rattle.ov_journal.proofs.journal.put_entries.Goals as goal

pub loop-entry-preserved : goal.loop-entry-preserved
loop-entry-preserved g c = record {
  wrote = wrote_next c.args.entries.now c.loop-entry.entry-index c.entry-item.result _ (g.K.Sink.written c.loop-entry.out) _
      c.loop-entry-test.true c.entry-item.is c.loop-entry.invariant.wrote c.in-Ok.ensures.ok;
  quiet = rw c.loop-entry.invariant.quiet at (c.put_entry.ensures.quiet (search rules));
}

pub returns-in-Err-clause-err : goal.returns-in-Err-clause-err
returns-in-Err-clause-err g c =
    wrote_inside ended c.args.entries.now c.loop-entry.entry-index c.entry-item.result _ (g.K.Sink.written c.loop-entry.out) _
    c.loop-entry-test.true c.entry-item.is c.loop-entry.invariant.wrote c.in-Err.ensures.err
