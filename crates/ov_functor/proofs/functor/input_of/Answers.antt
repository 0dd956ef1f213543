use Rattle.std.proofs.Common.{sym, ◌∙◌}
use Rattle.ov_functor.proofs.FunctorCode.{input_at_next}
use Rattle.ov_functor.proofs.functor.input_of.Goals as goal

pub loop-index-preserved : goal.loop-index-preserved
loop-index-preserved c =
    c.loop-index.invariant
    ∙ input_at_next c.args.key.now c.args.moves.now c.args.inputs.now c.loop-index.index c.index-moves-index.result c.loop-index-test.true c.requires c.index-moves-index.is
    (sym c.eq.ensures ∙ c.if-eq.false) (sym c.eq-in-loop-index.ensures ∙ c.if-eq-2.false)
