use Rattle.std.proofs.Common.{ℤ, Option, subst, sym}
use Rattle.ov_base.specs.Word.{Reads}
use Rattle.ov_base.specs.Amount.{amount_of, amount_text, IsAmount}
use Rattle.ov_base.proofs.Readers.{reads_by_laws}
use Rattle.ov_base.proofs.Amounts.{amount_again, amount_takes}
use Rattle.ov_base.proofs.amount.Amount.parse.Goals as goal

pub returns-clause-reads : goal.returns-clause-reads
returns-clause-reads c =
    subst (λ (r : Option ℤ). Reads amount_text IsAmount c.args.text.now r) (sym c.amount_read.ensures)
    (reads_by_laws amount_of amount_text IsAmount amount_again amount_takes c.args.text.now)
