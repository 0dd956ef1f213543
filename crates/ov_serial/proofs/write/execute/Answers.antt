use Rattle.std.proofs.Common.{◌≡◌, true, arith}
use Rattle.std.proofs.lemmas.Grind.{common_steps}
use Rattle.ov_functor.specs.Execution.{hold, moves_of}
use Rattle.ov_serial.specs.Results.{value_in}
use Rattle.ov_serial.proofs.Writes.{executed_back}
use Rattle.ov_serial.proofs.write.execute.Goals as goal

pub returns : goal.returns
returns c =
    let old = value_in c.args.values.now in
    let moves = c.moves_hold.ensures in
    let parts = c.parts.ensures.parts in
    let test = c.if-not-moves_hold.false in
    let held : hold old (moves_of c.args.transaction.now) ≡ true = grind (arith, common_steps) in
    rw (executed_back old c.args.transaction.now held) (rw (c.as_slice.ensures, c.in_ok-writes.ensures, c.parts-2.ensures.parts) at c.set_all.ensures)
