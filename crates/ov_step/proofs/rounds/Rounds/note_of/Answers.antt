use Rattle.std.proofs.Common.{length, refl}
use Rattle.std.proofs.lemmas.Option.{slice_get_read}
use Rattle.ov_step.proofs.Noting.{rounds_noted}
use Rattle.ov_step.proofs.rounds.Rounds.note_of.Goals as goal

pub returns : goal.returns
returns c h count is are =
    let settlers = c.self.inside.settlers.items in
    let there = slice_get_read settlers (length settlers) c.args.settler c.in-Some.rounds.now refl c.in-Some.ensures.item.3.0 c.in-Some.ensures.value in
    rw (c.rounds_after.ensures) (rounds_noted h count c.args.settler c.args.number c.args.kind.now settlers c.in-Some.rounds.now is there (rw (← c.self.view_is) at are))
