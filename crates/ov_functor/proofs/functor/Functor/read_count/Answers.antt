use Rattle.std.proofs.Common.{length, arith, sym, ap, ◌∙◌}
use Rattle.ov_functor.proofs.FunctorCode.{reads_with_own, reads_of_moves}
use Rattle.ov_functor.proofs.functor.Functor.read_count.Goals as goal

pub returns-then-reads_own_key : goal.returns-then-reads_own_key
returns-then-reads_own_key c = omega (arith, ap length c.moves.ensures.moves, reads_with_own c.args.self.now (sym c.reads_own_key.ensures ∙ c.if-reads_own_key.true))

pub returns-else-reads_own_key : goal.returns-else-reads_own_key
returns-else-reads_own_key c = omega (arith, ap length c.moves.ensures.moves, reads_of_moves c.args.self.now (sym c.reads_own_key.ensures ∙ c.if-reads_own_key.false))
