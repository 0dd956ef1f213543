use Rattle.std.proofs.Common.{sym, ◌∙◌}
use Rattle.ov_laws.proofs.Times.Begun.{drew_own}
use Rattle.ov_laws.proofs.Times.Once.{draws_once, entries_once}
use Rattle.ov_laws.proofs.laws.times.drawn_once.Goals as goal

pub returns-clause-once : goal.returns-clause-once
returns-clause-once c = λ t h lawful g other drawn also. draws_once t h g other drawn also lawful

pub returns-clause-gate : goal.returns-clause-gate
returns-clause-gate c = drew_own

pub returns-clause-entry : goal.returns-clause-entry
returns-clause-entry c = λ t h k j v lawful one other.
    entries_once t h k j one.entry other.entry one.drawn other.drawn lawful one.there other.there one.draws other.draws (one.version_is ∙ sym other.version_is)
