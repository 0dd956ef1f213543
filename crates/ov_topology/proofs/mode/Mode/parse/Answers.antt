use Rattle.std.proofs.Common.{Option, subst, sym}
use Rattle.ov_base.specs.Word.{Reads}
use Rattle.ov_base.proofs.Readers.{reads_by_laws}
use Rattle.ov_topology.specs.declared.mode.Mode.{Mode}
use Rattle.ov_topology.specs.Mode.{mode_of, mode_text, IsMode}
use Rattle.ov_topology.proofs.Modes.{mode_again, mode_takes}
use Rattle.ov_topology.proofs.mode.Mode.parse.Goals as goal

pub returns-clause-reads : goal.returns-clause-reads
returns-clause-reads c =
    subst (λ (r : Option Mode). Reads mode_text IsMode c.args.text.now r) (sym c.mode_read.ensures)
    (reads_by_laws mode_of mode_text IsMode mode_again mode_takes c.args.text.now)
