use Rattle.std.proofs.Common.{◌≡◌, ◌+◌, ap, sym, ◌∙◌, arith}
use Rattle.std.specs.Prelude.{if◌then◌else◌}
use Rattle.ov_link.proofs.Partitions.{one_more, part_done, part_short}
use Rattle.ov_link.proofs.Standing.{later_still}
use Rattle.ov_link.proofs.gather.gather.Goals as goal
use Rattle.ov_link.proofs.gather.gather.Goals.{then-branch, else-branch}

pub returns-then-complete-clause-done : goal.returns-then-complete-clause-done
returns-then-complete-clause-done g c =
    part_done c.args.harvest.now.topology c.args.round.now _ _ c.args.harvest.now c.loop-centre.harvest c.args.first c.loop-centre.centre c.args.part c.loop-centre.answers c.requires.part (c.complete.ensures.0 c.if-complete.true)
    c.loop-centre.invariant.3

pub returns-in_err-answered-clause-later : goal.returns-in_err-answered-clause-later
returns-in_err-answered-clause-later g c = later_still _ _ _ c.loop-centre.invariant.1 c.answered.ensures.later

pub loop-centre-preserved : goal.loop-centre-preserved
loop-centre-preserved g c =
    let kept = c.loop-centre.invariant in
    let more : c.if-branch.answers ≡ (if c.in_ok-answered.field-0 then c.loop-centre.answers + 1 else c.loop-centre.answers) = elim c.if-branch.branch [
      | then-branch w ↦ w.answers-is ∙ sym (ap (λ b. if b then c.loop-centre.answers + 1 else c.loop-centre.answers) w.if-branch.true)
      | else-branch w ↦ w.answers-is ∙ sym (ap (λ b. if b then c.loop-centre.answers + 1 else c.loop-centre.answers) w.if-branch.false)
    ] in
    let few = kept.2 in (
      c.in_ok-answered.ensures.topology ∙ kept.0,
      later_still _ _ _ kept.1 c.answered.ensures.later,
      elim c.if-branch.branch [
        | then-branch w ↦ omega (arith, few, w.answers-is)
        | else-branch w ↦ omega (arith, few, w.answers-is)
      ],
      one_more c.args.harvest.now.topology c.args.round.now _ _ _ c.args.harvest.now c.loop-centre.harvest c.answered.new.harvest c.args.first c.loop-centre.centre c.args.part c.loop-centre.answers c.if-branch.answers c.args.end
          c.in_ok-answered.field-0 c.requires.span (let from = c.loop-centre.auto.centre in omega (arith, from)) (let under = c.loop-centre-test.true in omega (arith, under)) c.requires.part
          (λ complete. let is = c.complete.ensures.1 complete in let not = c.if-complete.false in absurd (cc)) c.answered.ensures.later kept.3 c.in_ok-answered.ensures.call more,
    )

pub returns-then-complete-2-clause-done : goal.returns-then-complete-2-clause-done
returns-then-complete-2-clause-done g c =
    part_done c.args.harvest.now.topology c.args.round.now _ _ c.args.harvest.now c.loop-centre.harvest c.args.first c.loop-centre.centre c.args.part c.loop-centre.answers c.requires.part
    (c.complete-2.ensures.0 c.if-complete-2.true) c.loop-centre.invariant.3

pub returns-clause-cause : goal.returns-clause-cause
returns-clause-cause g c =
    part_short c.args.harvest.now.topology c.args.round.now _ _ c.args.harvest.now c.loop-centre.harvest c.args.first c.args.end c.loop-centre.centre c.args.part c.loop-centre.answers c.requires.span
    (let past = c.loop-centre-test.false in let under = c.loop-centre.auto.centre-end in omega (arith, past, under)) c.requires.part
    (λ complete. let is = c.complete-2.ensures.1 complete in let not = c.if-complete-2.false in absurd (cc)) c.loop-centre.invariant.3
