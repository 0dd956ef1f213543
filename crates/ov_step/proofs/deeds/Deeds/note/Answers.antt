use Rattle.std.proofs.Common.{◌<◌, sym}
use Rattle.ov_step.specs.Deeds.{number_of}
use Rattle.ov_step.proofs.Doing.{more_done, same_done}
use Rattle.ov_step.proofs.deeds.Deeds.note.Goals as goal

pub returns-in_ok-put : goal.returns-in_ok-put
returns-in_ok-put c =
    let small : number_of c.in-Some.deed < 64 = rw c.number.ensures.number at c.number.ensures.small in
    more_done c.args.entry.now c.in-Some.deed c.args.self.now c.put.new.self (sym c.in-Some.ensures) small
    (λ other. rw (c.subject.ensures, c.number.ensures.number) at (c.in_ok-put.ensures other))

pub returns-in_default : goal.returns-in_default
returns-in_default c = same_done c.args.entry.now c.args.self.now (sym c.in_default.ensures)
