use Rattle.std.proofs.Common.{subst}
use Rattle.std.specs.List.{All}
use Rattle.std.proofs.lemmas.List.{take_all}
use Rattle.std.proofs.lemmas.List.Elements.{All-more}
use Rattle.ov_base.specs.Key.{IsKey}
use Rattle.ov_script.proofs.line.keys_fit.Goals as goal

pub loop-key-preserved : goal.loop-key-preserved
loop-key-preserved c =
    All-more IsKey c.args.keys.now c.loop-key.key-index c.key-item.result c.loop-key-test.true c.loop-key.invariant (subst IsKey c.key-item.is c.key_fits.ensures)

pub returns : goal.returns
returns c = subst (All IsKey) (take_all c.loop-key.key-index c.args.keys.now c.loop-key-test.false) c.loop-key.invariant
