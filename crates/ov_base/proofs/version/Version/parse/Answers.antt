use Rattle.std.proofs.Common.{ℕ, Option, subst, sym}
use Rattle.ov_base.specs.Word.{Reads}
use Rattle.ov_base.specs.Version.{version_of, version_text, IsVersion}
use Rattle.ov_base.proofs.Readers.{reads_by_laws}
use Rattle.ov_base.proofs.Versions.{version_again, version_takes}
use Rattle.ov_base.proofs.version.Version.parse.Goals as goal

pub returns-clause-reads : goal.returns-clause-reads
returns-clause-reads c =
    subst (λ (r : Option ℕ). Reads version_text IsVersion c.args.text.now r) (sym c.version_read.ensures)
    (reads_by_laws version_of version_text IsVersion version_again version_takes c.args.text.now)
