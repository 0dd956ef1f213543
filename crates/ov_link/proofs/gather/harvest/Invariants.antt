use Rattle.std.proofs.Common.{◌≡◌}
use Rattle.ov_link.specs.Progress.{HasCome, IsLater, seen_of}
use Rattle.ov_link.proofs.gather.harvest.Given as goal

abbrev pub invariant-loop-part : goal.invariant-loop-part
invariant-loop-part g l =
    HasCome l.topology l.round (seen_of (g.L.Link.told l.initial.link) (g.L.Link.faults l.initial.link) (g.L.Link.book l.initial.link) (g.L.Link.asked l.initial.link)) (seen_of (g.L.Link.told l.link) (g.L.Link.faults l.link) (g.L.Link.book l.link) (g.L.Link.asked l.link)) l.harvest l.first l.first l.part 0
