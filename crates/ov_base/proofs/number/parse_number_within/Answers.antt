use Rattle.std.proofs.Common.{ℕ, Option, subst, sym, arith}
use Rattle.ov_base.specs.Word.{Reads}
use Rattle.ov_base.specs.Number.{IsWithin, number_within}
use Rattle.std.specs.Fmt.{decimal}
use Rattle.ov_base.proofs.Readers.{reads_by_laws}
use Rattle.ov_base.proofs.Numbers.{within_again, within_takes}
use Rattle.ov_base.proofs.number.parse_number_within.Goals as goal

pub returns-clause-reads : goal.returns-clause-reads
returns-clause-reads c =
    subst (λ (r : Option ℕ). Reads decimal (IsWithin c.args.low c.args.high) c.args.text.now r) (sym c.within_read.ensures)
    (reads_by_laws (number_within c.args.low c.args.high) decimal (IsWithin c.args.low c.args.high) (within_again c.args.low c.args.high (omega arith)) (within_takes c.args.low c.args.high) c.args.text.now)
