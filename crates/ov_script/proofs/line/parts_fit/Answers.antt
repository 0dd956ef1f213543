use Rattle.std.proofs.Common.{◌≡◌, true, subst}
use Rattle.std.specs.List.{All}
use Rattle.std.proofs.lemmas.List.{take_all}
use Rattle.std.proofs.lemmas.List.Elements.{All-more}
use Rattle.ov_functor.specs.declared.part.Part.{Part}
use Rattle.ov_functor.specs.Transaction.{is_positive}
use Rattle.ov_functor.specs.Words.{IsPart}
use Rattle.ov_script.proofs.line.parts_fit.Goals as goal

abbrev Fits : Part → Type 0
Fits part = is_positive part ≡ true → IsPart part

pub loop-part-preserved : goal.loop-part-preserved
loop-part-preserved c =
    All-more Fits c.args.parts.now c.loop-part.part-index c.part-item.result c.loop-part-test.true c.loop-part.invariant (subst Fits c.part-item.is c.part_fits.ensures)

pub returns : goal.returns
returns c = subst (All Fits) (take_all c.loop-part.part-index c.args.parts.now c.loop-part-test.false) c.loop-part.invariant
