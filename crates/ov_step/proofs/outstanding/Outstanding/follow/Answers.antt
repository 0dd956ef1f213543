use Rattle.std.proofs.Common.{map}
use Rattle.ov_world.specs.Acts.{line_in}
use Rattle.ov_world.specs.World.{setting_of}
use Rattle.ov_step.proofs.Keeping.{replies_within}
use Rattle.ov_step.proofs.Parting.{kept_after}
use Rattle.ov_step.proofs.Results.{on_ok}
use Rattle.ov_step.proofs.outstanding.Outstanding.follow.Goals as goal

pub catch_up-requires : goal.catch_up-requires
catch_up-requires c = replies_within (setting_of c.args.world.now) c.args.world.now.history c.args.self.now c.requires

pub returns-clause-kept : goal.returns-clause-kept
returns-clause-kept c =
    on_ok c.catch_up.result
    (λ caught. kept_after (map line_in c.args.lines.now) c.args.world.now c.follow_all.new.world c.args.self.now c.catch_up.new.self c.in_ok-follow_all.ensures.done caught c.requires)
    c.catch_up.ensures.kept
