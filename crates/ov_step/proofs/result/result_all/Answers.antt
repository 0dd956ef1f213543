use Rattle.std.proofs.Common.{sym}
use Rattle.ov_step.proofs.Resulting.{no_want, computed_more, computed_skip, computed_all, computed_in_part}
use Rattle.ov_step.proofs.result.result_all.Goals as goal

pub loop-want-preserved-then-has : goal.loop-want-preserved-then-has
loop-want-preserved-then-has c =
    computed_skip c.args.wants.now c.loop-want.want-index no_want c.args.world.now c.loop-want.world (rw c.as_slice-want-items.ensures at c.loop-want-test.true)
    (rw c.as_slice-want-items.ensures at (sym (c.if-has.ensures c.args.world.now.history c.requires.deeds))) c.loop-want.invariant

pub returns-in-Err-clause-part : goal.returns-in-Err-clause-part
returns-in-Err-clause-part c =
    computed_in_part c.args.wants.now c.loop-want.want-index c.args.world.now c.loop-want.world c.follow_line.new.self c.requires.wants c.loop-want.invariant c.in-Err.ensures.err

pub loop-want-preserved : goal.loop-want-preserved
loop-want-preserved c =
    computed_more c.args.wants.now c.loop-want.want-index no_want c.args.world.now c.loop-want.world c.follow_line.new.self
    (rw c.as_slice-want-items.ensures at c.loop-want-test.true) c.requires.wants
    (rw c.as_slice-want-items.ensures at (sym (c.if-has.ensures c.args.world.now.history c.requires.deeds))) c.loop-want.invariant
    (rw c.as_slice-want-items.ensures at c.in-Ok.ensures.follow)

pub returns-clause-done : goal.returns-clause-done
returns-clause-done c =
    computed_all c.args.wants.now c.loop-want.want-index c.args.world.now c.loop-want.world (rw c.as_slice-want-items.ensures at c.loop-want-test.false) c.requires.wants c.loop-want.invariant
