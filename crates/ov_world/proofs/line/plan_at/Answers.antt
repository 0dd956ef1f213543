use Rattle.ov_world.proofs.Numbered.{found_is}
use Rattle.ov_world.proofs.line.plan_at.Goals as goal

pub returns : goal.returns
returns c = found_is c.get.result c.args.roster.now.sessions c.args.number (rw c.as_slice.ensures at c.get.ensures.lookup.0) (rw c.as_slice.ensures at c.get.ensures.lookup.1)
