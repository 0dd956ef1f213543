use Rattle.std.proofs.Common.{ℕ, List, Option, subst, sym}
use Rattle.ov_base.specs.Word.{Reads, itself}
use Rattle.ov_base.proofs.Readers.{reads_by_laws}
use Rattle.ov_session.specs.Name.{IsName, name_of}
use Rattle.ov_session.proofs.Names.{name_again, name_takes}
use Rattle.ov_session.proofs.name.SessionName.from_bytes.Goals as goal

pub returns-clause-reads : goal.returns-clause-reads
returns-clause-reads c =
    subst (λ (r : Option (List ℕ)). Reads itself IsName c.args.bytes.now r) (sym c.name_read.ensures)
    (reads_by_laws name_of itself IsName name_again name_takes c.args.bytes.now)
