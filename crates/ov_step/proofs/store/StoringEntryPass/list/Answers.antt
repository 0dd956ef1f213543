use Rattle.ov_world.specs.World.{setting_of}
use Rattle.ov_step.proofs.Storing.{stored_began}
use Rattle.ov_step.proofs.store.StoringEntryPass.list.Goals as goal

pub returns-in-Began : goal.returns-in-Began
returns-in-Began c =
    rw (stored_began (setting_of c.args.world.now) c.args.world.now.history c.args.number c.args.entry.now c.in-Gate.field-0 c.in-Began.session c.in-Began.seq c.in-Began.start c.in-Gate.is c.in-Began.is)
    c.list_start.ensures
