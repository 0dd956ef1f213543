use Rattle.std.proofs.Common.{ℕ, min, ap, ◌∙◌}
use Rattle.ov_gossip.specs.Marks.{least, mark_of}
use Rattle.ov_gossip.proofs.Leasts.{least_step}
use Rattle.ov_gossip.proofs.vector.least_of.Goals as goal

pub loop-mark-preserved : goal.loop-mark-preserved
loop-mark-preserved c =
    least_step (mark_of c.args.which) c.loop-mark.least c.min-least.result (least (mark_of c.args.which) c.args.marks.now) c.args.marks.now c.loop-mark.mark-index
    c.loop-mark-test.true (c.min-least.ensures ∙ ap (λ (n : ℕ). min n c.loop-mark.least) c.of.ensures) c.loop-mark.invariant
