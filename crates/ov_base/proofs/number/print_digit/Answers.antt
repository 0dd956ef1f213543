use Rattle.std.proofs.Common.{rules}
use Rattle.ov_base.proofs.Numbers.{digit_decimal}
use Rattle.ov_base.proofs.number.print_digit.Goals as goal

pub returns-clause-ok : goal.returns-clause-ok
returns-clause-ok c = rw (digit_decimal c.args.digit c.requires) (search rules)
