use Rattle.std.proofs.Common.{◌≡◌, take}
use Rattle.std.specs.List.{flat_map}
use Rattle.ov_io.specs.Causes.{Wrote}
use Rattle.ov_report.proofs.Lines.{seen_text}
use Rattle.ov_report.proofs.print.put_lines.Given as goal

abbrev pub invariant-loop-line : goal.invariant-loop-line
invariant-loop-line g l = record {
  wrote : Wrote (g.K.Sink.written l.initial.out) (g.K.Sink.written l.out) (flat_map seen_text (take l.line-index l.lines));
  quiet : g.K.Sink.faults l.out ≡ g.K.Sink.faults l.initial.out;
}
