use Rattle.std.proofs.Common.{ℕ, Option, subst, sym}
use Rattle.ov_base.specs.Word.{Reads}
use Rattle.ov_topology.specs.Actor.{node_text, IsNode}
use Rattle.ov_topology.proofs.Actors.{node_at_reads}
use Rattle.ov_topology.proofs.actor.parse_node.Goals as goal

pub returns-clause-reads : goal.returns-clause-reads
returns-clause-reads c =
    subst (λ (r : Option (ℕ × ℕ)). Reads (λ (at : ℕ × ℕ). node_text at.0 at.1) (λ (at : ℕ × ℕ). IsNode at.0 at.1) c.args.text.now r) (sym c.node_at.ensures) (node_at_reads c.args.text.now)
