use Rattle.std.proofs.Common.{[]}
use Rattle.ov_world.specs.Actors.{StandUpTo}
use Rattle.ov_world.proofs.world.cores_of.Given as goal

abbrev pub invariant-loop-number : goal.invariant-loop-number
invariant-loop-number l = StandUpTo (record { topology = l.topology; roster = l.roster }) [] l.number l.cores.items
