use Rattle.std.proofs.Common.{Option, subst, sym}
use Rattle.ov_base.specs.declared.value.Value.{Value}
use Rattle.ov_base.specs.Word.{Reads}
use Rattle.ov_base.specs.Value.{value_of, value_text, IsValue}
use Rattle.ov_base.proofs.Readers.{reads_by_laws}
use Rattle.ov_base.proofs.Values.{value_again, value_takes}
use Rattle.ov_base.proofs.value.Value.parse.Goals as goal

pub returns-clause-reads : goal.returns-clause-reads
returns-clause-reads c =
    subst (λ (r : Option Value). Reads value_text IsValue c.args.text.now r) (sym c.value_read.ensures)
    (reads_by_laws value_of value_text IsValue value_again value_takes c.args.text.now)
