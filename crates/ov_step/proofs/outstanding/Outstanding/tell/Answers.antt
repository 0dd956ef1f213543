use Rattle.std.proofs.Common.{[], ◌∷◌, map, refl, ap, subst, ◌∙◌}
use Rattle.ov_follow.specs.Passes.{tolds}
use Rattle.ov_world.specs.Acts.{line_in}
use Rattle.ov_step.specs.Followed.{FollowedInPart}
use Rattle.ov_step.proofs.Parting.{passes_none, passed_some}
use Rattle.ov_step.proofs.Results.{on_any_err, on_err}
use Rattle.ov_step.proofs.outstanding.Outstanding.tell.Goals as goal

pub returns-in_err-lines-clause-part : goal.returns-in_err-lines-clause-part
returns-in_err-lines-clause-part c = on_any_err c.from_residual.result (passes_none (tolds ∷ []) c.args.world.now c.args.world.now refl)

pub returns-clause-part : goal.returns-clause-part
returns-clause-part c =
    on_err c.follow.result
    (λ part. passed_some tolds c.args.world.now c.follow.new.world
    (subst (λ lines. FollowedInPart lines c.args.world.now c.follow.new.world) (ap (map line_in) c.as_slice.ensures.value ∙ c.in_ok-lines.ensures.lines) part))
    c.follow.ensures.part
