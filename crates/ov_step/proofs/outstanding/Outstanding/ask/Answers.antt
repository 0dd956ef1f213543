use Rattle.ov_follow.specs.Passes.{questions}
use Rattle.ov_world.specs.World.{setting_of}
use Rattle.ov_step.proofs.Keeping.{replies_within}
use Rattle.ov_step.proofs.Parting.{passed_one, passed_some, passed_whole, kept_after}
use Rattle.ov_step.proofs.Results.{on_any_err, on_ok}
use Rattle.ov_step.proofs.outstanding.Outstanding.ask.Goals as goal

pub returns-in_err-ask_all-clause-part : goal.returns-in_err-ask_all-clause-part
returns-in_err-ask_all-clause-part c = on_any_err c.from_residual.result (passed_some questions c.args.world.now c.ask_all.new.world c.in_err-ask_all.ensures.part)

pub catch_up-requires : goal.catch_up-requires
catch_up-requires c = replies_within (setting_of c.args.world.now) c.args.world.now.history c.args.self.now c.requires

pub returns-clause-done : goal.returns-clause-done
returns-clause-done c =
    on_ok c.catch_up.result
    (λ caught. passed_one questions c.args.world.now c.ask_all.new.world c.catch_up.new.self c.in_ok-ask_all.ensures.done
    (kept_after (questions (setting_of c.args.world.now) c.args.world.now.history) c.args.world.now c.ask_all.new.world c.args.self.now c.catch_up.new.self c.in_ok-ask_all.ensures.done caught c.requires))
    c.catch_up.ensures.kept

pub returns-clause-part : goal.returns-clause-part
returns-clause-part c = on_any_err c.catch_up.result (passed_whole questions c.args.world.now c.ask_all.new.world c.in_ok-ask_all.ensures.done)
