use Rattle.ov_laws.proofs.Watermarks.Finals.{low_is_mark, full_is_mark, done_is_mark}
use Rattle.ov_laws.proofs.Watermarks.Publications.{own_grows}
use Rattle.ov_laws.proofs.laws.watermarks.growing_marks.Goals as goal

pub returns-clause-low : goal.returns-clause-low
returns-clause-low c = λ t h a g time vector lawful. own_grows t (low_is_mark t.topology) h lawful.0 a g time vector lawful.1.guard

pub returns-clause-full : goal.returns-clause-full
returns-clause-full c = λ t h a g time vector lawful. own_grows t (full_is_mark t.topology) h lawful.0 a g time vector lawful.1.guard

pub returns-clause-done : goal.returns-clause-done
returns-clause-done c = λ t h a g time vector lawful. own_grows t (done_is_mark t.topology) h lawful.0 a g time vector lawful.1.guard
