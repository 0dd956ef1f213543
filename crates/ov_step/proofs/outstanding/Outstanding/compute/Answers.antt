use Rattle.std.proofs.Common.{refl}
use Rattle.ov_follow.specs.Passes.{results}
use Rattle.ov_world.specs.World.{setting_of}
use Rattle.ov_step.proofs.Keeping.{kept_wants, replies_within}
use Rattle.ov_step.proofs.Parting.{passed_one, passed_some, passed_whole, kept_after}
use Rattle.ov_step.proofs.Results.{on_any_err, on_ok}
use Rattle.ov_step.proofs.Wanting.{wants_dropped}
use Rattle.ov_step.proofs.outstanding.Outstanding.compute.Goals as goal

pub result_all-requires-clause-wants : goal.result_all-requires-clause-wants
result_all-requires-clause-wants c =
    rw (c.drop_replied.ensures c.args.world.now.history c.requires.deeds_are)
    (wants_dropped c.args.world.now.topology c.args.world.now.history c.args.self.now.wants c.requires.wants_are)

pub returns-in_err-result_all-clause-part : goal.returns-in_err-result_all-clause-part
returns-in_err-result_all-clause-part c = on_any_err c.from_residual.result (passed_some results c.args.world.now c.result_all.new.world c.in_err-result_all.ensures.part)

pub catch_up-requires : goal.catch_up-requires
catch_up-requires c = replies_within (setting_of c.args.world.now) c.args.world.now.history c.args.self.now c.requires

pub returns-clause-done : goal.returns-clause-done
returns-clause-done c =
    on_ok c.catch_up.result
    (λ caught. passed_one results c.args.world.now c.result_all.new.world c.catch_up.new.self c.in_ok-result_all.ensures.done
    (kept_after (results (setting_of c.args.world.now) c.args.world.now.history) c.args.world.now c.result_all.new.world (record c.args.self.now { wants = c.drop_replied.new.self }) c.catch_up.new.self
    c.in_ok-result_all.ensures.done caught
    (kept_wants (setting_of c.args.world.now) c.args.world.now.history c.args.self.now (record c.args.self.now { wants = c.drop_replied.new.self }) c.requires refl
    (rw (c.drop_replied.ensures c.args.world.now.history c.requires.deeds_are)
    (wants_dropped c.args.world.now.topology c.args.world.now.history c.args.self.now.wants c.requires.wants_are)))))
    c.catch_up.ensures.kept

pub returns-clause-part : goal.returns-clause-part
returns-clause-part c = on_any_err c.catch_up.result (passed_whole results c.args.world.now c.result_all.new.world c.in_ok-result_all.ensures.done)
