use Rattle.std.proofs.Common.{arith}
use Rattle.std.proofs.lemmas.Grind.{common_steps}
use Rattle.ov_step.proofs.Doing.{put_is}
use Rattle.ov_step.proofs.deeds.Deeds.put.Goals as goal

pub returns : goal.returns
returns c = λ other. put_is c.args.subject c.args.number c.args.self.now _ other (grind (arith, common_steps))
