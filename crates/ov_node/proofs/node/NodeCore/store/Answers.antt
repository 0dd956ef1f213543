use Rattle.ov_node.proofs.node.NodeCore.store.Goals as goal

pub returns-clause-steps : goal.returns-clause-steps
returns-clause-steps c = rw (c.in-Write.is, ← c.in_ok-copy.ensures) c.store_items.ensures.steps
