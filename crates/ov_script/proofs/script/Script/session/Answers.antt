use Rattle.std.proofs.Common.{arith, sym}
use Rattle.ov_script.proofs.Found.{placed_below}
use Rattle.ov_script.proofs.script.Script.session.Goals as goal

pub overflow_cast-result : goal.overflow_cast-result
overflow_cast-result c = omega (arith, c.self.invariant.says.few, placed_below c.args.name.now c.self.inside.names.keys c.in-Some.at (sym c.in-Some.ensures))
