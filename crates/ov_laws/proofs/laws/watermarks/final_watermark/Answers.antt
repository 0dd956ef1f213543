use Rattle.ov_laws.proofs.Watermarks.Finals.{visible_final, replicated_final, done_replied, later_above}
use Rattle.ov_laws.proofs.Watermarks.Orders.{full_under_low, replicated_under_visible}
use Rattle.ov_laws.proofs.laws.watermarks.final_watermark.Goals as goal

pub returns-clause-low : goal.returns-clause-low
returns-clause-low c = λ t h a run. visible_final t h a run.1

pub returns-clause-full : goal.returns-clause-full
returns-clause-full c = λ t h a run. replicated_final t h a run.1

pub returns-clause-order : goal.returns-clause-order
returns-clause-order c = λ t h a run. replicated_under_visible t run.0 h run.1 a

pub returns-clause-marks : goal.returns-clause-marks
returns-clause-marks c = λ t h a g run. full_under_low t run.0 h run.1 a g

pub returns-clause-done : goal.returns-clause-done
returns-clause-done c = λ t h a run. done_replied t h a run.1

pub returns-clause-later : goal.returns-clause-later
returns-clause-later c = λ t h a shape more e g drawn lawful drew. later_above t h more a e g drawn lawful drew
