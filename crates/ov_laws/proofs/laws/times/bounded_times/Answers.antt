use Rattle.ov_laws.proofs.Times.Bounds.{last_bounded, top_bounded, drawn_at_bounded, published_bounded}
use Rattle.ov_laws.proofs.laws.times.bounded_times.Goals as goal

pub returns-clause-times : goal.returns-clause-times
returns-clause-times c = λ t h g run. last_bounded t h g run.0 run.1

pub returns-clause-marks : goal.returns-clause-marks
returns-clause-marks c = λ t h a run. top_bounded t h a run.0 run.1

pub returns-clause-drawn : goal.returns-clause-drawn
returns-clause-drawn c = drawn_at_bounded

pub returns-clause-published : goal.returns-clause-published
returns-clause-published c = λ t h k time run is. published_bounded t h k time is.actor is.vector run.0 run.1 is.there
