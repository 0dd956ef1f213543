use Rattle.ov_node.proofs.Holding.{insertion_of}
use Rattle.ov_node.proofs.node.add.Goals as goal

pub returns-clause-items : goal.returns-clause-items
returns-clause-items c =
    rw (← c.item.view_is)
    ((insertion_of c.insert.result (record { key = c.item.inside.key; version = c.item.inside.version; item = c.item.inside.held }) c.args.lists.now c.insert.new.self
    (c.insert.ensures.succeeds c.requires) c.insert.ensures.ordered c.insert.ensures.inserts).0)
