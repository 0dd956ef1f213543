use Rattle.std.proofs.Common.{rules, arith}
use Rattle.ov_cells.proofs.Steps.{splits}
use Rattle.ov_cells.proofs.cells.Cells.split.Goals as goal

pub split_seat-other-requires : goal.split_seat-other-requires
split_seat-other-requires c = (search rules, (let w = c.self.invariant.1 in omega arith), splits _ _ _ (let p = c.seat.invariant.1 in let q = c.if-seat-lt2.false in omega arith))
