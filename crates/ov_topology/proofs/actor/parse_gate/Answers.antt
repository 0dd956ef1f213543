use Rattle.std.proofs.Common.{ℕ, Option, subst, sym}
use Rattle.ov_base.specs.Word.{Reads}
use Rattle.ov_topology.specs.Actor.{gate_of, gate_text, IsGate}
use Rattle.ov_base.proofs.Readers.{reads_by_laws}
use Rattle.ov_topology.proofs.Actors.{gate_again, gate_takes}
use Rattle.ov_topology.proofs.actor.parse_gate.Goals as goal

pub returns-clause-reads : goal.returns-clause-reads
returns-clause-reads c =
    subst (λ (r : Option ℕ). Reads gate_text IsGate c.args.text.now r) (sym c.gate_read.ensures)
    (reads_by_laws gate_of gate_text IsGate gate_again gate_takes c.args.text.now)
