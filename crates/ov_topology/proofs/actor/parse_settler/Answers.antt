use Rattle.std.proofs.Common.{ℕ, Option, subst, sym}
use Rattle.ov_base.specs.Word.{Reads}
use Rattle.ov_topology.specs.Actor.{settler_of, settler_text, IsSettler}
use Rattle.ov_base.proofs.Readers.{reads_by_laws}
use Rattle.ov_topology.proofs.Actors.{settler_again, settler_takes}
use Rattle.ov_topology.proofs.actor.parse_settler.Goals as goal

pub returns-clause-reads : goal.returns-clause-reads
returns-clause-reads c =
    subst (λ (r : Option ℕ). Reads settler_text IsSettler c.args.text.now r) (sym c.settler_read.ensures)
    (reads_by_laws settler_of settler_text IsSettler settler_again settler_takes c.args.text.now)
