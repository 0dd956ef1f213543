use Rattle.std.proofs.Common.{sym, ◌∙◌}
use Rattle.ov_functor.proofs.FunctorCode.{inputs_of_sides, inputs_of_moves}
use Rattle.ov_functor.proofs.functor.Functor.moves_hold.Goals as goal

pub moves_cover-requires : goal.moves_cover-requires
moves_cover-requires c =
    inputs_of_sides c.args.self.now c.args.inputs.now c.moves.result.now (sym c.reads_own_key.ensures ∙ c.if-reads_own_key.true) c.requires c.moves.ensures.moves

pub moves_cover-requires-else-reads_own_key : goal.moves_cover-requires-else-reads_own_key
moves_cover-requires-else-reads_own_key c =
    inputs_of_moves c.args.self.now c.args.inputs.now c.moves-else-reads_own_key.result.now (sym c.reads_own_key.ensures ∙ c.if-reads_own_key.false) c.requires
    c.moves-else-reads_own_key.ensures.moves
