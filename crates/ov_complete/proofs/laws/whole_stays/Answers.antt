use Rattle.std.proofs.Common.{[]}
use Rattle.ov_complete.proofs.Wholeness.{calm_stops, calm_whole, nothing_whole}
use Rattle.ov_complete.proofs.laws.whole_stays.Goals as goal

pub returns-clause-nobody : goal.returns-clause-nobody
returns-clause-nobody c = calm_stops

pub returns-clause-stays : goal.returns-clause-stays
returns-clause-stays c = calm_whole

pub returns-clause-begins : goal.returns-clause-begins
returns-clause-begins c = λ t shape. nothing_whole t.topology shape

pub returns-clause-made : goal.returns-clause-made
returns-clause-made c = λ t shape. calm_whole t [] (nothing_whole t.topology shape)
