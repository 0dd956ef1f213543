use Rattle.std.proofs.Common.{ap}
use Rattle.ov_node.specs.Node.{NodeState, items_in}
use Rattle.ov_node.proofs.node.NodeCore.window.Goals as goal

pub returns-in-Some-clause-items : goal.returns-in-Some-clause-items
returns-in-Some-clause-items c =
    let sees = ap (λ (s : NodeState). s.items) c.self.view_is in
    rw (← sees) (rw c.in-Some.is at (c.in_ok-items.ensures (items_in c.self.inside.items.entries) c.self.invariant))
