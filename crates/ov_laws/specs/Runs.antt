-- Runs: what the actors of a topology did.
use Rattle.ov_topology.specs.Shape.{IsShape}
use Rattle.ov_history.specs.Past.{History}
use Rattle.ov_history.specs.May.{Setting, Lawful}

-- the topology has the right ranges and quorums that meet, and each entry could follow those before it
abbrev pub IsRun : Setting → History → Type 0
IsRun t h = IsShape t.topology × Lawful t h
