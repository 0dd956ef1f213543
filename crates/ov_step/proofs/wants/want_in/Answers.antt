use Rattle.std.specs.Option.{option_to_list}
use Rattle.ov_step.proofs.Wanting.{wants_of_gate}
use Rattle.ov_step.proofs.wants.want_in.Goals as goal

pub returns-in-Gate : goal.returns-in-Gate
returns-in-Gate c =
    wants_of_gate c.args.topology.now c.args.number c.args.entry.now c.in-Gate.gate c.write_count-letter.result (option_to_list c.want_of.result) c.in-Gate.is c.write_count-letter.ensures.count c.want_of.ensures
