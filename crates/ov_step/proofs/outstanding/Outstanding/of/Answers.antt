use Rattle.std.proofs.Common.{[], sym}
use Rattle.std.proofs.lemmas.List.{append-nil}
use Rattle.ov_step.proofs.outstanding.Outstanding.of.Goals as goal

pub returns-clause-kept : goal.returns-clause-kept
returns-clause-kept c = c.in_ok-catch_up.ensures.kept [] c.args.world.now.history (sym (append-nil c.args.world.now.history)) c.in_ok-kept.ensures
