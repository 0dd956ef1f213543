use Rattle.std.proofs.Common.{ap, ◌∙◌}
use Rattle.std.proofs.lemmas.Result.{IfOk-weaker}
use Rattle.ov_node.specs.Node.{NodeState}
use Rattle.ov_node.proofs.Holding.{items_inside}
use Rattle.ov_node.proofs.node.NodeCore.inside.Goals as goal

pub returns : goal.returns
returns c =
    let sees = ap (λ (s : NodeState). s.items) c.self.view_is in
    IfOk-weaker c.of.result _ _ (λ shared is. is ∙ rw (← sees, c.in_ok-copied.ensures, c.as_slice.ensures.value, c.in_ok-found.ensures) (items_inside c.args.from c.args.below c.self.inside.items.entries)) c.of.ensures
