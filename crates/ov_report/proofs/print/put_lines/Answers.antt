use Rattle.std.proofs.Common.{ap, sym, subst, ◌∙◌}
use Rattle.std.specs.List.{flat_map}
use Rattle.std.proofs.lemmas.List.{take_all}
use Rattle.std.proofs.lemmas.Result.{err_from_is_err_and}
use Rattle.ov_io.specs.Causes.{Wrote}
use Rattle.ov_io.proofs.Sinks.{wrote_inside}
use Rattle.ov_report.proofs.Lines.{seen_text, seen_texts}
use Rattle.ov_report.proofs.print.put_lines.Goals as goal

pub returns-in_err-put_line-clause-err : goal.returns-in_err-put_line-clause-err
returns-in_err-put_line-clause-err g c =
    let p = err_from_is_err_and c.from_residual.result c.from_residual.ensures.1 in
    rw (p.1, seen_texts c.args.lines.now) (wrote_inside seen_text c.args.lines.now c.loop-line.line-index c.line-item.result _ (g.K.Sink.written c.loop-line.out) _
    c.loop-line-test.true c.line-item.is c.loop-line.invariant.wrote c.in_err-put_line.ensures.err)

pub returns-clause-ok : goal.returns-clause-ok
returns-clause-ok g c =
    let all = ap (flat_map seen_text) (take_all c.loop-line.line-index c.args.lines.now c.loop-line-test.false) ∙ sym (seen_texts c.args.lines.now) in
    subst (Wrote (g.K.Sink.written c.args.out.now) (g.K.Sink.written c.loop-line.out)) all c.loop-line.invariant.wrote
