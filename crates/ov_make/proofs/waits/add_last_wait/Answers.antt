use Rattle.std.proofs.Common.{arith}
use Rattle.ov_make.proofs.Fitting.{after_fits}
use Rattle.ov_make.proofs.waits.add_last_wait.Goals as goal

pub add_line-requires : goal.add_line-requires
add_line-requires c =
    rw c.wait.ensures
    (after_fits c.args.script.now 0 0 c.args.session c.commands_of-commands.result c.requires.all (omega arith) c.requires.there c.if-commands-ge1.true (omega (arith, c.commands_of-commands.ensures)))
