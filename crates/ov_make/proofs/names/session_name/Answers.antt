use Rattle.std.proofs.Common.{◌∙◌, arith}
use Rattle.ov_make.proofs.Tables.{short_name, long_name}
use Rattle.ov_make.proofs.names.session_name.Goals as goal

pub returns-then-session-lt10 : goal.returns-then-session-lt10
returns-then-session-lt10 c = c.name_of.ensures ∙ short_name c.args.session (omega arith)

pub returns-else-session-lt10 : goal.returns-else-session-lt10
returns-else-session-lt10 c = c.name_of-else-session-lt10.ensures ∙ long_name c.args.session (omega arith) c.requires
