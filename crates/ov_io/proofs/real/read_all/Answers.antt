use Rattle.std.proofs.Common.{◌++◌, take, arith, length-append, length-take}
use Rattle.std.proofs.KnownBytes.{Consumes-trans}
use Rattle.ov_io.proofs.real.read_all.Goals as goal

pub returns-then-is_err-clause-asked : goal.returns-then-is_err-clause-asked
returns-then-is_err-clause-asked g c = (
  c.loop.bytes.items ++ take c.in-Ok.count c.read.new.buf,
  Consumes-trans _ _ _ c.loop.bytes.items (take c.in-Ok.count c.read.new.buf) c.loop.invariant.1 c.in-Ok.ensures.bytes.0,
  omega (
    arith,
    length-append c.loop.bytes.items (take c.in-Ok.count c.read.new.buf),
    length-take c.in-Ok.count c.read.new.buf,
    length-take c.room_within-room.result c.loop.chunk,
    c.loop.invariant.0,
    c.room_within-room.ensures.limit,
  ),
)
