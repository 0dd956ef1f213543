use Rattle.ov_make.proofs.Adding.{can_add}
use Rattle.ov_make.proofs.line.add_line.Goals as goal

pub add-requires : goal.add-requires
add-requires c = can_add c.args.line c.requires.0
