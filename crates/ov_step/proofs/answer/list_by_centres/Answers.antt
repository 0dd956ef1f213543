use Rattle.std.proofs.Common.{map}
use Rattle.ov_world.specs.Acts.{line_in}
use Rattle.ov_step.proofs.Listing.{centre_answers, each_behind}
use Rattle.ov_step.proofs.answer.list_by_centres.Goals as goal

pub loop-centre-preserved : goal.loop-centre-preserved
loop-centre-preserved c =
    each_behind (centre_answers c.args.world.now.history c.args.world.now.topology.partitions c.args.settler c.args.mode c.args.number) c.loop-centre.centre (map line_in c.args.lines.now.items) (map line_in c.loop-centre.lines.items)
    (map line_in c.list_by_centre.new.lines.items) c.loop-centre.invariant c.in_ok-list_by_centre.ensures
