-- The example with entries of all kinds is lawful, as whatever is followed is.
use Rattle.std.proofs.Common.{arith}
use Rattle.std.specs.Prelude.{[], ◌+◌}
use Rattle.ov_topology.specs.Shape.{IsShape}
use Rattle.ov_history.specs.May.{Lawful}
use Rattle.ov_follow.specs.Lines.{drive}
use Rattle.ov_follow.specs.Calm.{calm, commands}
use Rattle.ov_follow.specs.Worlds.{two_gateways}
use Rattle.ov_follow.specs.Schedules.{waiting, settler_stops}
use Rattle.ov_follow.proofs.Lawful.{drive_lawful, rounds_lawful}

-- two gateways of one centre with one partition are a topology
two_gateways_shape : IsShape two_gateways
two_gateways_shape = record {
  some_centre = omega arith;
  few_centres = omega arith;
  some_partition = omega arith;
  few_partitions = omega arith;
  some_gateway = omega arith;
  few_gateways = omega arith;
  gateways_at = (omega arith, (omega arith, tt));
  some_write = omega arith;
  few_write = omega arith;
  some_read = omega arith;
  few_read = omega arith;
  meet = omega arith;
}

-- the example is lawful
pub example_lawful : Lawful waiting (drive waiting (calm waiting []) settler_stops)
example_lawful = drive_lawful waiting settler_stops (calm waiting []) two_gateways_shape (rounds_lawful (commands waiting + 1) waiting [] two_gateways_shape tt)
