use Rattle.ov_topology.proofs.fault.TopologyError.print_to.Goals as goal

pub returns-in-Quorum : goal.returns-in-Quorum
returns-in-Quorum c = rw c.in-Quorum.is c.print_quorum.ensures
