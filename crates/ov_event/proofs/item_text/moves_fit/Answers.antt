use Rattle.std.proofs.Common.{subst}
use Rattle.std.specs.List.{All}
use Rattle.std.proofs.lemmas.List.{take_all}
use Rattle.std.proofs.lemmas.List.Elements.{All-more}
use Rattle.ov_event.specs.ItemWords.{IsMove}
use Rattle.ov_event.proofs.item_text.moves_fit.Goals as goal

pub loop-one-preserved : goal.loop-one-preserved
loop-one-preserved c =
    All-more IsMove c.args.moves.now c.loop-one.one-index c.one-item.result c.loop-one-test.true c.loop-one.invariant (subst IsMove c.one-item.is c.move_fits.ensures)

pub returns : goal.returns
returns c = subst (All IsMove) (take_all c.loop-one.one-index c.args.moves.now c.loop-one-test.false) c.loop-one.invariant
