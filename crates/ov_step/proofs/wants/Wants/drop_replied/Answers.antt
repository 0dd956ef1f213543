use Rattle.std.proofs.Common.{rules, List, ap, ◌∙◌}
use Rattle.std.specs.List.{filter}
use Rattle.std.proofs.lemmas.Fn.{filter_same}
use Rattle.ov_step.specs.Wants.{is_wanting}
use Rattle.ov_step.specs.declared.wants.Want.{Want}
use Rattle.ov_step.proofs.wants.Wants.drop_replied.Goals as goal

pub returns : goal.returns
returns c h done =
    filter_same _ (is_wanting h) _ (λ want b f k. search (rules, done)) _ _ c.retain.ensures.filtered
    ∙ ap (λ (kept : List Want). filter (is_wanting h) kept) c.self.view_is
