use Rattle.std.proofs.Common.{rules}
use Rattle.ov_topology.proofs.Ranges.{within_bounds, gates_bounds}
use Rattle.ov_topology.proofs.read.in_ranges.Goals as goal

pub meeting-requires : goal.meeting-requires
meeting-requires c =
    let centres = within_bounds 1 5 c.args.values.now.centres c.in-Some.centres (search rules) in
    let gateways = gates_bounds c.in-Some.centres c.args.values.now.gateways.items c.in-Ok-Some.gateways.items (search rules) in
    record {
      centres = centres;
      partitions = within_bounds 1 8 c.args.values.now.partitions c.in-Some-within.partitions (search rules);
      gateways = (gateways.0, gateways.1);
      gateways_at = gateways.2;
      write = within_bounds 1 c.in-Some.centres c.args.values.now.write c.in-Some-within-2.write (search rules);
      read = within_bounds 1 c.in-Some.centres c.args.values.now.read c.in-Some-within-3.read (search rules);
    }
