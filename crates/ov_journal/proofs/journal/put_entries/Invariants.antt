use Rattle.std.proofs.Common.{◌≡◌, take}
use Rattle.ov_base.specs.Lines.{lines_text}
use Rattle.ov_io.specs.Causes.{Wrote}
use Rattle.ov_journal.specs.Line.{entry_text}
use Rattle.ov_journal.proofs.journal.put_entries.Given as goal

abbrev pub invariant-loop-entry : goal.invariant-loop-entry
invariant-loop-entry g l = record {
  wrote : Wrote (g.K.Sink.written l.initial.out) (g.K.Sink.written l.out) (lines_text entry_text (take l.entry-index l.entries));
  quiet : g.K.Sink.faults l.out ≡ g.K.Sink.faults l.initial.out;
}
