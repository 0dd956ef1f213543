use Rattle.std.proofs.Common.{◌/◌, arith}
use Rattle.ov_functor.proofs.FunctorCode.{move_keys_length, from_at, to_at}
use Rattle.ov_functor.proofs.functor.side_key.Goals as goal

pub offset_bounds-moves-place : goal.offset_bounds-moves-place
offset_bounds-moves-place c = omega (arith, move_keys_length c.args.moves.now)

pub bounds-moves-place : goal.bounds-moves-place
bounds-moves-place c = omega (arith, move_keys_length c.args.moves.now)

pub returns-then-place-eq0 : goal.returns-then-place-eq0
returns-then-place-eq0 c =
    from_at c.args.moves.now (c.args.place / 2) c.args.place c.index-moves-place.result (omega arith) (omega (arith, move_keys_length c.args.moves.now)) c.index-moves-place.is

pub returns-else-place-eq0 : goal.returns-else-place-eq0
returns-else-place-eq0 c =
    to_at c.args.moves.now (c.args.place / 2) c.args.place c.index-moves-place.result (omega arith) (omega (arith, move_keys_length c.args.moves.now)) c.index-moves-place.is
