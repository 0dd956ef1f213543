use Rattle.std.proofs.Common.{◌≡◌, ◌≤◌}
use Rattle.ov_link.specs.Progress.{Advances, IsLater, seen_of}
use Rattle.ov_link.proofs.gather.gather.Given as goal

abbrev pub invariant-loop-centre : goal.invariant-loop-centre
invariant-loop-centre g l =
    (l.harvest.topology ≡ l.initial.harvest.topology)
    × IsLater (seen_of (g.L.Link.told l.initial.link) (g.L.Link.faults l.initial.link) (g.L.Link.book l.initial.link) (g.L.Link.asked l.initial.link)) (seen_of (g.L.Link.told l.link) (g.L.Link.faults l.link) (g.L.Link.book l.link) (g.L.Link.asked l.link))
    × (l.answers ≤ l.centre)
    × Advances l.initial.harvest.topology l.round (seen_of (g.L.Link.told l.initial.link) (g.L.Link.faults l.initial.link) (g.L.Link.book l.initial.link) (g.L.Link.asked l.initial.link)) (seen_of (g.L.Link.told l.link) (g.L.Link.faults l.link) (g.L.Link.book l.link) (g.L.Link.asked l.link)) l.initial.harvest l.harvest l.first l.part l.centre l.part l.answers
