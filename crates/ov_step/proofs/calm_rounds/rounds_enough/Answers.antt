use Rattle.std.proofs.Common.{arith}
use Rattle.ov_step.proofs.Calming.{count_few}
use Rattle.ov_step.proofs.calm_rounds.rounds_enough.Goals as goal

pub returns : goal.returns
returns c = let few = count_few c.args.roster.now.sessions c.requires.short in omega (arith, few)
