use Rattle.std.proofs.Common.{arith}
use Rattle.std.proofs.lemmas.Int.{ints, to_z-of_z}
use Rattle.ov_report.proofs.Sums.{amount_low, amount_high, sum_more}
use Rattle.ov_report.proofs.summary.sum_of.Goals as goal

pub loop-shown-preserved : goal.loop-shown-preserved
loop-shown-preserved c = record {
  sum = grind (arith, ints, to_z-of_z, sum_more);
  low = let amount = amount_low c.or_zero.result c.get.ensures.form in omega (arith, ints, amount);
  high = let amount = amount_high c.or_zero.result c.get.ensures.form in omega (arith, ints, amount);
}
