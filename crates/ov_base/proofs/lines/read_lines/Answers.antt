use Rattle.std.proofs.Common.{◌+◌, sym, ◌∙◌, arith, refl, subst}
use Rattle.ov_base.specs.Lines.{IsRead, read_from}
use Rattle.ov_base.proofs.Splits.{cut_shorter}
use Rattle.ov_base.proofs.LineTexts.{pieces_in, read_last, read_more, read_next, refuses_then}
use Rattle.ov_base.proofs.lines.read_lines.Goals as goal

pub loop-ended-init : goal.loop-ended-init
loop-ended-init g c = (refl, omega arith)

pub returns-in-Err : goal.returns-in-Err
returns-in-Err g c =
    refuses_then c.in-Err.error c.loop-ended.line
    (g.T.FromLines.taken c.loop-ended.read c.loop-ended.line c.in-Some.ended.now)
    (λ after. read_from g.T.FromLines.taken g.T.FromLines.unended after (c.loop-ended.line + 1) (pieces_in c.in-Some.others.now)) _ c.in-Err.ensures
    (sym c.loop-ended.invariant.0 ∙ read_more g.T.FromLines.taken g.T.FromLines.unended c.loop-ended.read c.loop-ended.line c.loop-ended.rest.now c.in-Some.ended.now c.in-Some.others.now (sym c.in-Some.ensures))

pub overflow_add-line : goal.overflow_add-line
overflow_add-line g c =
    let less = cut_shorter 10 c.loop-ended.rest.now c.in-Some.ended.now c.in-Some.others.now (sym c.in-Some.ensures) in
    let old = c.loop-ended.invariant.1 in
    omega (arith, less)

pub loop-ended-smaller : goal.loop-ended-smaller
loop-ended-smaller g c = cut_shorter 10 c.loop-ended.rest.now c.in-Some.ended.now c.in-Some.others.now (sym c.in-Some.ensures)

pub loop-ended-preserved : goal.loop-ended-preserved
loop-ended-preserved g c =
    let less = cut_shorter 10 c.loop-ended.rest.now c.in-Some.ended.now c.in-Some.others.now (sym c.in-Some.ensures) in (
      sym (read_next g.T.FromLines.taken g.T.FromLines.unended c.loop-ended.read _ c.loop-ended.line c.loop-ended.rest.now c.in-Some.ended.now c.in-Some.others.now (sym c.in-Some.ensures) c.in-Ok.ensures) ∙ c.loop-ended.invariant.0,
      (let old = c.loop-ended.invariant.1 in omega (arith, less)),
    )

pub returns : goal.returns
returns g c =
    subst (IsRead c.last_read.result)
    (sym (read_last g.T.FromLines.taken g.T.FromLines.unended c.loop-ended.read c.loop-ended.line c.loop-ended.rest.now (sym c.in_default.ensures)) ∙ c.loop-ended.invariant.0)
    c.last_read.ensures
