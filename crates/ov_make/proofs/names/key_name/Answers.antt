use Rattle.std.proofs.Common.{sym, ◌∙◌}
use Rattle.ov_make.proofs.Tables.{key_spelled}
use Rattle.ov_make.proofs.names.key_name.Goals as goal

pub returns : goal.returns
returns c = sym c.in-Some.ensures.reads.1 ∙ key_spelled c.args.key c.requires
