use Rattle.std.proofs.Common.{map}
use Rattle.ov_world.specs.Acts.{line_in}
use Rattle.ov_world.specs.World.{setting_of}
use Rattle.ov_step.proofs.Early.{takings_begin}
use Rattle.ov_step.proofs.harvest.list_from.Goals as goal

pub loop-place-init : goal.loop-place-init
loop-place-init c =
    takings_begin (setting_of c.args.world.now) c.args.world.now.history c.args.settler c.args.asked c.args.round (map line_in c.args.lines.now.items) c.entries-entries.ensures.holds.lawful.1 c.requires.asked c.requires.current
